-- The limits of the papers' tables, named once, and beside them the terms of a model. Every definition of the files takes them as a parameter.
use Rattle.std.specs.Prelude.{ℕ, ◌+◌, ◌*◌}

-- which terms the fractions p(v)/d of a transition may be written in: any, or, document 02, K10, 'Lowest terms only'
pub data Terms : Type 0 where
  any_terms : Terms
  lowest_terms : Terms

-- the most states, actions, transitions, entries and refutations, and the highest label; and the terms
pub record Limits : Type 0 where
  pub states : ℕ
  pub actions : ℕ
  pub transitions : ℕ
  pub entries : ℕ
  pub refutations : ℕ
  pub label : ℕ
  pub terms : Terms

-- document 02, K7: 'The limits become 128 states, 2,048 entries and 8,128 refutations; transitions stay at 256'
abbrev pub limits : Limits
limits = record { states = 128; actions = 32; transitions = 256; entries = 2048; refutations = 8128; label = 63; terms = any_terms }

-- the limits of document 01, which a part from before K7 has
abbrev pub older_limits : Limits
older_limits = record { states = 64; actions = 32; transitions = 256; entries = 1024; refutations = 2016; label = 63; terms = any_terms }

-- the same limits with other terms
abbrev pub with_terms : Terms → Limits → Limits
with_terms terms L =
    record {
      states = L.states;
      actions = L.actions;
      transitions = L.transitions;
      entries = L.entries;
      refutations = L.refutations;
      label = L.label;
      terms = terms;
    }

-- K10: 'A transition whose weights have a common divisor above 1 is refused from now on': what the calls read by, but for those that rewrite
abbrev pub current : Limits
current = with_terms lowest_terms limits

-- the bytes of the longest model: its head and the mark of its labels, a label for each state, and so many for each transition and each entry
abbrev pub longest_model : Limits → ℕ
longest_model L = 8 + L.states + 7 * L.transitions + 3 * L.entries
