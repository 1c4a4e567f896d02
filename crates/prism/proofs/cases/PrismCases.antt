-- PRISM texts, read case by case: every way out of reading, the files of models byte by byte, and what the call answers and leaves in the
-- lent buffer.
use Rattle.std.specs.Prelude.{ℕ, zero, suc, ◌≡◌, refl, List, [], ◌∷◌, ◌++◌, length, replicate}
use Prim.Native.Char.{code}
use Prim.Native.String as string
use Prim.Native.String.{String}
use Rattle.bisimulation.specs.definitions.Choice.{if_less, if_same, if_true, both}
use Rattle.numbers.specs.definitions.Decimal.{is_digit, all_digits, value_from, value_of, is_number, digits_before, decimal}
use Rattle.numbers.specs.definitions.Divisor.{divisor_within, divisor, divisor_of}
use Rattle.rules.specs.definitions.Limits.{any_terms, Limits, limits}
use Rattle.rules.specs.definitions.Bytes.{two_bytes}
use Rattle.rules.specs.definitions.Model.{entries_bytes, transition_bytes, transitions_bytes, head_bytes, labels_bytes, model_bytes}
use Rattle.rules.specs.definitions.SoundModel.{Each, sum_over}
use Rattle.rules.specs.definitions.Answers.{Outcome, refusal_in, answer_without_place, unwritten, filled_with, filled_each, filled, room_for, files_outcome}
use Rattle.rules.proofs.cases.MoreCases.{outcome_of}
use Rattle.prism.specs.definitions.Lines.{start_with, pieces, fraction, ten_thousandths, all_shown, is_name, line_by, fields_line, read_line, head_by, fields_head, read_head}
use Rattle.prism.specs.definitions.Reading.{same_bytes, begins_with, place_among, action_of, with_name, total_of, last_target, choices_with, choices_of, goes_on, follows, fits, begins, extends, with_begun, with_extended, ReadText, holds, refused_at, unless_total, at_end, last_piece, step_on, step_begins, step_by, step_read, step, after_step, read_lines, read_headed, read_pieces, read_prism}
use Rattle.prism.specs.definitions.HeldModel.{entry_over, transition_over, transition_of, held_model}
use Rattle.prism.specs.definitions.PrismAnswer.{text_outcome, prism_outcome}

-- the bytes of a quoted text: each character here is one byte
unfoldable pub bytes_of : String → List ℕ
bytes_of string.[] = []
bytes_of (string.◌∷◌ c cs) = code c ∷ bytes_of cs

-- a text, the number that refuses it, and its place
pub record Refused : Type 0 where
  pub text : String
  pub number : ℕ
  pub place : ℕ

unfoldable pub refusals : List Refused
refusals =
    -- the head line: 31 at 0. No text at all
    record { text = ""; number = 31; place = 0 }
    -- an empty line
    ∷ record { text = "\n"; number = 31; place = 0 }
    -- no 0A
    ∷ record { text = "1 0 0"; number = 31; place = 0 }
    -- 0 states
    ∷ record { text = "0 0 0\n"; number = 31; place = 0 }
    -- leading zeros
    ∷ record { text = "01 0 0\n"; number = 31; place = 0 }
    ∷ record { text = "1 00 0\n"; number = 31; place = 0 }
    ∷ record { text = "1 0 00\n"; number = 31; place = 0 }
    -- two numbers, four, an empty one, and a fourth field that is empty
    ∷ record { text = "1 0\n"; number = 31; place = 0 }
    ∷ record { text = "1 0 0 0\n"; number = 31; place = 0 }
    ∷ record { text = "1  0\n"; number = 31; place = 0 }
    ∷ record { text = "1 0 0 \n"; number = 31; place = 0 }
    -- 0D before the 0A; a sign
    ∷ record { text = "1 0 0\r\n"; number = 31; place = 0 }
    ∷ record { text = "+1 0 0\n"; number = 31; place = 0 }
    -- one more than each limit
    ∷ record { text = "129 0 0\n"; number = 31; place = 0 }
    ∷ record { text = "1 257 0\n"; number = 31; place = 0 }
    ∷ record { text = "1 0 2049\n"; number = 31; place = 0 }
    -- 1 and 0 when cut to 32 or 64 bits
    ∷ record { text = "4294967297 0 0\n"; number = 31; place = 0 }
    ∷ record { text = "1 4294967296 0\n"; number = 31; place = 0 }
    ∷ record { text = "1 0 4294967296\n"; number = 31; place = 0 }
    ∷ record { text = "18446744073709551617 0 0\n"; number = 31; place = 0 }
    -- the limits themselves pass: the counts differ at the text's end
    ∷ record { text = "1 256 0\n"; number = 31; place = 8 }
    ∷ record { text = "1 0 2048\n"; number = 31; place = 9 }
    -- fewer choices than the head says, or fewer lines, or more: 31 at the text's end
    ∷ record { text = "1 2 1\n0 0 0 1\n"; number = 31; place = 14 }
    ∷ record { text = "1 1 2\n0 0 0 1\n"; number = 31; place = 14 }
    ∷ record { text = "1 1 2\n0 0 0 1\n0 1 0 1\n"; number = 31; place = 22 }
    ∷ record { text = "2 1 1\n0 0 0 0.5\n0 0 1 0.5\n"; number = 31; place = 26 }
    ∷ record { text = "1 0 0\n0 0 0 1\n"; number = 31; place = 14 }
    -- a line that breaks the form beyond the head's counts is 31 at itself
    ∷ record { text = "1 1 1\n0 0 0 1\n0 1 0 1\n0 2 1 1\n"; number = 31; place = 22 }
    -- 32 at the choice's first line: at the text's end, before 31 there
    ∷ record { text = "1 1 1\n0 0 0 0.5\n"; number = 32; place = 6 }
    ∷ record { text = "1 3 3\n0 0 0 0.5\n"; number = 32; place = 6 }
    ∷ record { text = "3 2 3\n0 0 0 1\n1 0 0 0.5\n1 0 2 0.4999\n"; number = 32; place = 14 }
    ∷ record { text = "2 1 2\n0 0 0 0.5\n0 0 1 0.5001\n"; number = 32; place = 6 }
    -- before the next choice, before one that may not follow, and before an empty line
    ∷ record { text = "1 2 2\n0 0 0 0.5\n0 1 0 1\n"; number = 32; place = 6 }
    ∷ record { text = "2 2 3\n0 0 0 0.5\n0 0 1 0.4\n1 1 0 1\n"; number = 32; place = 6 }
    ∷ record { text = "1 1 1\n0 0 0 0.5\n\n"; number = 32; place = 6 }
    ∷ record { text = "1 1 1\n0 0 0 0.5\nx\n"; number = 32; place = 6 }
    -- a line with the choice's source and number in front is not judged by the sum: a broken one is 31 at itself, ended or not
    ∷ record { text = "2 1 2\n0 0 0 0.5\n0 0 x\n"; number = 31; place = 16 }
    ∷ record { text = "2 1 2\n0 0 0 0.5\n0 0 x"; number = 31; place = 16 }
    ∷ record { text = "2 1 2\n0 0 0 0.5\n0 0 \n"; number = 31; place = 16 }
    ∷ record { text = "2 1 2\n0 0 0 0.5\n0 0 1 0.5"; number = 31; place = 16 }
    -- also where the sum is above 1
    ∷ record { text = "3 1 3\n0 0 0 1\n0 0 1 0.5\n0 0 x\n"; number = 31; place = 24 }
    ∷ record { text = "3 1 3\n0 0 0 1\n0 0 1 0.5\n0 0 2 0"; number = 31; place = 24 }
    -- the bytes in front are compared, not numbers: these have other ones
    ∷ record { text = "2 1 2\n0 0 0 0.5\n0 00 1 0.5\n"; number = 32; place = 6 }
    ∷ record { text = "2 1 2\n0 0 0 0.5\n00 0 1 0.5\n"; number = 32; place = 6 }
    ∷ record { text = "2 1 2\n0 0 0 0.5\n0 0\n"; number = 32; place = 6 }
    ∷ record { text = "2 1 2\n0 0 0 0.5\n0 0"; number = 32; place = 6 }
    ∷ record { text = "2 1 2\n0 0 0 0.5\n 0 0 1 0.5\n"; number = 32; place = 6 }
    ∷ record { text = "11 2 2\n1 0 0 0.5\n10 0 0 1\n"; number = 32; place = 7 }
    ∷ record { text = "11 2 2\n10 0 0 0.5\n1 0 0 1\n"; number = 32; place = 7 }
    ∷ record { text = "12 1 2\n11 0 0 0.5\n11 00 1 0.5\n"; number = 32; place = 7 }
    -- and with a whole sum they are 31 at themselves
    ∷ record { text = "2 1 2\n0 0 0 1\n0 00 1 1\n"; number = 31; place = 14 }
    ∷ record { text = "2 1 2\n0 0 0 1\n00 0 1 1\n"; number = 31; place = 14 }
    ∷ record { text = "2 1 2\n0 0 0 1\n0 0\n"; number = 31; place = 14 }
    -- 10 and 11 are compared whole: these go on
    ∷ record { text = "12 1 2\n11 0 0 0.5\n11 0 11 x\n"; number = 31; place = 18 }
    ∷ record { text = "1 11 11\n0 0 0 1\n0 1 0 1\n0 2 0 1\n0 3 0 1\n0 4 0 1\n0 5 0 1\n0 6 0 1\n0 7 0 1\n0 8 0 1\n0 9 0 1\n0 10 0 0.5\n0 10 x\n"; number = 31; place = 99 }
    ∷ record { text = "1 11 11\n0 0 0 1\n0 1 0 1\n0 2 0 1\n0 3 0 1\n0 4 0 1\n0 5 0 1\n0 6 0 1\n0 7 0 1\n0 8 0 1\n0 9 0 1\n0 10 0 0.5\n0 1 x\n"; number = 32; place = 88 }
    -- a last line without 0A
    ∷ record { text = "1 1 1\n0 0 0 1"; number = 31; place = 6 }
    ∷ record { text = "1 2 2\n0 0 0 1\n0 1 0 1"; number = 31; place = 14 }
    ∷ record { text = "1 1 1\n0 0 0 0.5\n0 1 0 1"; number = 32; place = 6 }
    -- an empty line at the end
    ∷ record { text = "1 1 1\n0 0 0 1\n\n"; number = 31; place = 14 }
    -- a source and a target that is no state
    ∷ record { text = "2 1 1\n2 0 0 1\n"; number = 31; place = 6 }
    ∷ record { text = "2 1 1\n0 0 2 1\n"; number = 31; place = 6 }
    -- 0 when cut to 32 bits: source, choice, target
    ∷ record { text = "1 1 1\n4294967296 0 0 1\n"; number = 31; place = 6 }
    ∷ record { text = "1 1 1\n0 4294967296 0 1\n"; number = 31; place = 6 }
    ∷ record { text = "1 1 1\n0 0 4294967296 1\n"; number = 31; place = 6 }
    -- leading zeros
    ∷ record { text = "1 1 1\n00 0 0 1\n"; number = 31; place = 6 }
    ∷ record { text = "1 1 1\n0 00 0 1\n"; number = 31; place = 6 }
    ∷ record { text = "1 1 1\n0 0 00 1\n"; number = 31; place = 6 }
    -- three fields, six, a space at the end, two spaces, 0D
    ∷ record { text = "1 1 1\n0 0 0\n"; number = 31; place = 6 }
    ∷ record { text = "1 1 1\n0 0 0 1 a b\n"; number = 31; place = 6 }
    ∷ record { text = "1 1 1\n0 0 0 1 \n"; number = 31; place = 6 }
    ∷ record { text = "1 1 1\n0 0 0 1 a \n"; number = 31; place = 6 }
    ∷ record { text = "1 1 1\n0 0 0  1\n"; number = 31; place = 6 }
    ∷ record { text = "1 1 1\n0 0 0 1\r\n"; number = 31; place = 6 }
    -- probabilities
    ∷ record { text = "1 1 1\n0 0 0 1.0\n"; number = 31; place = 6 }
    ∷ record { text = "1 1 1\n0 0 0 0\n"; number = 31; place = 6 }
    ∷ record { text = "1 1 1\n0 0 0 00\n"; number = 31; place = 6 }
    ∷ record { text = "1 1 1\n0 0 0 2\n"; number = 31; place = 6 }
    ∷ record { text = "1 1 1\n0 0 0 0.\n"; number = 31; place = 6 }
    ∷ record { text = "1 1 1\n0 0 0 .5\n"; number = 31; place = 6 }
    ∷ record { text = "1 1 1\n0 0 0 0.0000\n"; number = 31; place = 6 }
    ∷ record { text = "1 1 1\n0 0 0 0.00000\n"; number = 31; place = 6 }
    ∷ record { text = "1 1 1\n0 0 0 0.50000\n"; number = 31; place = 6 }
    ∷ record { text = "1 1 1\n0 0 0 0.5x\n"; number = 31; place = 6 }
    ∷ record { text = "1 1 1\n0 0 0 0,5\n"; number = 31; place = 6 }
    ∷ record { text = "1 1 1\n0 0 0 10.5\n"; number = 31; place = 6 }
    -- a name with a byte 7F, 80 or 09
    ∷ record { text = "1 1 1\n0 0 0 1 a\u{7f}\n"; number = 31; place = 6 }
    ∷ record { text = "1 1 1\n0 0 0 1 \u{80}\n"; number = 31; place = 6 }
    ∷ record { text = "1 1 1\n0 0 0 1 a\t\n"; number = 31; place = 6 }
    -- sources descend
    ∷ record { text = "2 2 2\n1 0 0 1\n0 0 0 1\n"; number = 31; place = 14 }
    -- choices of a source: from 0, one by one, and from 0 again
    ∷ record { text = "1 1 1\n0 1 0 1\n"; number = 31; place = 6 }
    ∷ record { text = "1 2 2\n0 0 0 1\n0 2 0 1\n"; number = 31; place = 14 }
    ∷ record { text = "1 3 3\n0 0 0 1\n0 1 0 1\n0 0 0 1\n"; number = 31; place = 22 }
    ∷ record { text = "2 2 2\n0 0 0 1\n1 1 0 1\n"; number = 31; place = 14 }
    -- targets that stay or descend
    ∷ record { text = "2 1 2\n0 0 1 0.5\n0 0 1 0.5\n"; number = 31; place = 16 }
    ∷ record { text = "2 1 2\n0 0 1 0.5\n0 0 0 0.5\n"; number = 31; place = 16 }
    -- two names in a choice, and a line with none beside one with a name
    ∷ record { text = "2 1 2\n0 0 0 0.5 a\n0 0 1 0.5 ab\n"; number = 31; place = 18 }
    ∷ record { text = "2 1 2\n0 0 0 0.5 ab\n0 0 1 0.5 a\n"; number = 31; place = 19 }
    ∷ record { text = "2 1 2\n0 0 0 0.5 a\n0 0 1 0.5\n"; number = 31; place = 18 }
    ∷ record { text = "2 1 2\n0 0 0 0.5\n0 0 1 0.5 a\n"; number = 31; place = 16 }
    ∷ record { text = "2 2 3\n0 0 0 1 b\n0 1 0 0.5 a\n0 1 1 0.5 b\n"; number = 31; place = 28 }
    ∷ []

-- limits that short texts pass: 2 choices and 3 lines
abbrev pub few_lines : Limits
few_lines = record { states = 3; actions = 3; transitions = 2; entries = 3; refutations = 0; label = 63; terms = any_terms }

unfoldable pub line_refusals : List Refused
line_refusals =
    -- the head passes a limit: states, choices, lines
    record { text = "4 0 0\n"; number = 31; place = 0 }
    ∷ record { text = "3 3 0\n"; number = 31; place = 0 }
    ∷ record { text = "3 0 4\n"; number = 31; place = 0 }
    -- a third choice is 31 at its line, after a pending 32
    ∷ record { text = "1 2 2\n0 0 0 1\n0 1 0 1\n0 2 0 1\n"; number = 31; place = 22 }
    ∷ record { text = "1 2 2\n0 0 0 1\n0 1 0 0.5\n0 2 0 1\n"; number = 32; place = 14 }
    ∷ record { text = "3 2 2\n0 0 0 1\n1 0 0 1\n2 0 0 1\n"; number = 31; place = 22 }
    -- a fourth line, one that goes on and one that begins a choice
    ∷ record { text = "3 2 3\n0 0 0 1\n1 0 0 0.5\n1 0 1 0.4\n1 0 2 0.1\n"; number = 31; place = 34 }
    ∷ record { text = "3 2 3\n0 0 0 0.5\n0 0 1 0.4\n0 0 2 0.1\n1 0 0 1\n"; number = 31; place = 36 }
    ∷ record { text = "3 2 3\n0 0 0 0.5\n0 0 1 0.4\n0 0 2 0.2\n1 0 0 1\n"; number = 32; place = 6 }
    ∷ []

-- two names
abbrev pub few_names : Limits
few_names = record { states = 3; actions = 3; transitions = 4; entries = 4; refutations = 0; label = 63; terms = any_terms }

unfoldable pub name_refusals : List Refused
name_refusals =
    -- a third name is 31 at its line, after a pending 32
    record { text = "1 3 3\n0 0 0 1 a\n0 1 0 1 b\n0 2 0 1 c\n"; number = 31; place = 26 }
    ∷ record { text = "1 3 3\n0 0 0 1 a\n0 1 0 0.5 b\n0 2 0 1 c\n"; number = 32; place = 16 }
    ∷ record { text = "2 3 3\n0 0 0 1 a\n0 1 0 1 ab\n1 0 0 1 abc\n"; number = 31; place = 27 }
    ∷ []

-- a text, and the file of the model that it holds
pub record Held : Type 0 where
  pub text : String
  pub file : List ℕ

unfoldable pub models : List Held
models =
    -- one state and no choice
    record {
      text = "1 0 0\n";
      file =
          0x50 ∷ 0x41 ∷ 0x01 ∷ 0x01 ∷ 0x00 ∷ 0x00 ∷ 0x4C ∷ 0x42 ∷ 0x00 ∷ [];
    }
    -- two names, lines without one, d 4, 1, 10,000 and 1; state 1 has no choices; names go on from source to source
    ∷ record {
      text = "3 4 7\n0 0 0 0.25 a\n0 0 2 0.75 a\n0 1 1 1\n2 0 0 0.0001 ab\n2 0 1 0.4999 ab\n2 0 2 0.5 ab\n2 1 2 1 a\n";
      file =
          0x50 ∷ 0x41 ∷ 0x03 ∷ 0x03 ∷ 0x00 ∷ 0x04 ∷ 0x4C ∷ 0x42 ∷ 0x00 ∷ 0x00 ∷ 0x00
          ∷ 0x54 ∷ 0x52 ∷ 0x00 ∷ 0x01 ∷ 0x00 ∷ 0x04 ∷ 0x02 ∷ 0x00 ∷ 0x00 ∷ 0x01 ∷ 0x02 ∷ 0x00 ∷ 0x03
          ∷ 0x54 ∷ 0x52 ∷ 0x00 ∷ 0x00 ∷ 0x00 ∷ 0x01 ∷ 0x01 ∷ 0x01 ∷ 0x00 ∷ 0x01
          ∷ 0x54 ∷ 0x52 ∷ 0x02 ∷ 0x02 ∷ 0x27 ∷ 0x10 ∷ 0x03 ∷ 0x00 ∷ 0x00 ∷ 0x01 ∷ 0x01 ∷ 0x13 ∷ 0x87 ∷ 0x02 ∷ 0x13 ∷ 0x88
          ∷ 0x54 ∷ 0x52 ∷ 0x02 ∷ 0x01 ∷ 0x00 ∷ 0x01 ∷ 0x01 ∷ 0x02 ∷ 0x00 ∷ 0x01 ∷ [];
    }
    -- the divisor of all weights, not of the first two; 0.50 and 0.5000 are 1/2
    ∷ record {
      text = "3 2 5\n0 0 0 0.4\n0 0 1 0.40\n0 0 2 0.2\n1 0 0 0.50\n1 0 1 0.5000\n";
      file =
          0x50 ∷ 0x41 ∷ 0x03 ∷ 0x01 ∷ 0x00 ∷ 0x02 ∷ 0x4C ∷ 0x42 ∷ 0x00 ∷ 0x00 ∷ 0x00
          ∷ 0x54 ∷ 0x52 ∷ 0x00 ∷ 0x00 ∷ 0x00 ∷ 0x05 ∷ 0x03 ∷ 0x00 ∷ 0x00 ∷ 0x02 ∷ 0x01 ∷ 0x00 ∷ 0x02 ∷ 0x02 ∷ 0x00 ∷ 0x01
          ∷ 0x54 ∷ 0x52 ∷ 0x01 ∷ 0x00 ∷ 0x00 ∷ 0x02 ∷ 0x02 ∷ 0x00 ∷ 0x00 ∷ 0x01 ∷ 0x01 ∷ 0x00 ∷ 0x01 ∷ [];
    }
    -- names are no numbers, and are compared whole
    ∷ record {
      text = "1 5 5\n0 0 0 1 00\n0 1 0 1 0\n0 2 0 1 0.5\n0 3 0 1 !~\n0 4 0 1 0\n";
      file =
          0x50 ∷ 0x41 ∷ 0x01 ∷ 0x05 ∷ 0x00 ∷ 0x05 ∷ 0x4C ∷ 0x42 ∷ 0x00
          ∷ 0x54 ∷ 0x52 ∷ 0x00 ∷ 0x01 ∷ 0x00 ∷ 0x01 ∷ 0x01 ∷ 0x00 ∷ 0x00 ∷ 0x01
          ∷ 0x54 ∷ 0x52 ∷ 0x00 ∷ 0x02 ∷ 0x00 ∷ 0x01 ∷ 0x01 ∷ 0x00 ∷ 0x00 ∷ 0x01
          ∷ 0x54 ∷ 0x52 ∷ 0x00 ∷ 0x03 ∷ 0x00 ∷ 0x01 ∷ 0x01 ∷ 0x00 ∷ 0x00 ∷ 0x01
          ∷ 0x54 ∷ 0x52 ∷ 0x00 ∷ 0x04 ∷ 0x00 ∷ 0x01 ∷ 0x01 ∷ 0x00 ∷ 0x00 ∷ 0x01
          ∷ 0x54 ∷ 0x52 ∷ 0x00 ∷ 0x02 ∷ 0x00 ∷ 0x01 ∷ 0x01 ∷ 0x00 ∷ 0x00 ∷ 0x01 ∷ [];
    }
    -- long ones too
    ∷ record {
      text = "1 3 3\n0 0 0 1 a-name-of-more-than-32-bytes-which-ends-1\n0 1 0 1 a-name-of-more-than-32-bytes-which-ends-2\n0 2 0 1 a-name-of-more-than-32-bytes-which-ends-1\n";
      file =
          0x50 ∷ 0x41 ∷ 0x01 ∷ 0x03 ∷ 0x00 ∷ 0x03 ∷ 0x4C ∷ 0x42 ∷ 0x00
          ∷ 0x54 ∷ 0x52 ∷ 0x00 ∷ 0x01 ∷ 0x00 ∷ 0x01 ∷ 0x01 ∷ 0x00 ∷ 0x00 ∷ 0x01
          ∷ 0x54 ∷ 0x52 ∷ 0x00 ∷ 0x02 ∷ 0x00 ∷ 0x01 ∷ 0x01 ∷ 0x00 ∷ 0x00 ∷ 0x01
          ∷ 0x54 ∷ 0x52 ∷ 0x00 ∷ 0x01 ∷ 0x00 ∷ 0x01 ∷ 0x01 ∷ 0x00 ∷ 0x00 ∷ 0x01 ∷ [];
    }
    ∷ []

-- within the limits, each of them reached: the file's length
pub record Within : Type 0 where
  pub limits : Limits
  pub text : String
  pub size : ℕ

unfoldable pub withins : List Within
withins =
    -- 2 choices with 3 lines, 3 states
    record { limits = few_lines; text = "3 2 3\n0 0 0 1\n2 0 1 0.5\n2 0 2 0.5\n"; size = 34 }
    -- two names, and lines with a name seen before or with none
    ∷ record { limits = few_names; text = "1 4 4\n0 0 0 1 a\n0 1 0 1 b\n0 2 0 1\n0 3 0 1 a\n"; size = 49 }
    -- 128 states
    ∷ record { limits = limits; text = "128 1 1\n127 0 127 1\n"; size = 146 }
    ∷ []

-- lines for the choices of state 0 that are left, from a number on, each to state 0 with probability 1
unfoldable pub choice_lines : (left number : ℕ) → List ℕ
choice_lines zero number = []
choice_lines (suc left) number = (0x30 ∷ 0x20 ∷ decimal number) ++ ((0x20 ∷ 0x30 ∷ 0x20 ∷ 0x31 ∷ 0x0A ∷ []) ++ choice_lines left (suc number))

-- the same with names of their own: `x` and the choice's number
unfoldable pub named_lines : (left number : ℕ) → List ℕ
named_lines zero number = []
named_lines (suc left) number =
    (0x30 ∷ 0x20 ∷ decimal number) ++ ((0x20 ∷ 0x30 ∷ 0x20 ∷ 0x31 ∷ 0x20 ∷ 0x78 ∷ decimal number) ++ ((0x0A ∷ []) ++ named_lines left (suc number)))

-- the length of the file that the model of a text has, or the refusal
unfoldable pub size_or : ReadText → ℕ × ℕ
size_or (holds h names choices) = (0, length (model_bytes (held_model h names choices)))
size_or (refused_at number place) = (number, place)

-- a text, the lent buffer before, and what the call answers and leaves in the buffer
pub record PrismCase : Type 0 where
  pub text : String
  pub before : List ℕ
  pub expected : Outcome

-- `2 1 2|0 0 0 0.25 a|0 0 1 0.75 a|` (| for 0A) holds a model of 23 bytes
unfoldable pub quarters : List ℕ
quarters =
    0x50 ∷ 0x41 ∷ 2 ∷ 2 ∷ 0 ∷ 1 ∷ 0x4C ∷ 0x42 ∷ 0 ∷ 0
    ∷ 0x54 ∷ 0x52 ∷ 0 ∷ 1 ∷ 0 ∷ 4 ∷ 2 ∷ 0 ∷ 0 ∷ 1 ∷ 1 ∷ 0 ∷ 3 ∷ []

unfoldable pub prism_outcomes : List PrismCase
prism_outcomes =
    -- a buffer that is longer by two bytes, which stay
    record { text = "2 1 2\n0 0 0 0.25 a\n0 0 1 0.75 a\n"; before = replicate 25 7; expected = outcome_of 0 0 0 0 0 23 (quarters ++ (7 ∷ 7 ∷ [])) }
    -- as long as the file
    ∷ record { text = "2 1 2\n0 0 0 0.25 a\n0 0 1 0.75 a\n"; before = replicate 23 7; expected = outcome_of 0 0 0 0 0 23 quarters }
    -- shorter: 33, without a place, and nothing written
    ∷ record { text = "2 1 2\n0 0 0 0.25 a\n0 0 1 0.75 a\n"; before = replicate 22 7; expected = outcome_of 33 0 0 0 0 0 (replicate 22 7) }
    ∷ record { text = "2 1 2\n0 0 0 0.25 a\n0 0 1 0.75 a\n"; before = []; expected = outcome_of 33 0 0 0 0 0 [] }
    -- 32 and 31 come before 33: file 1, and a stretch from the place to the text's end
    ∷ record { text = "2 1 2\n0 0 0 0.25 a\n0 0 1 0.5 a\n"; before = []; expected = outcome_of 32 1 6 6 25 0 [] }
    ∷ record { text = "2 1 2\n0 0 0 0.25 a\n0 0 1 0.75\n"; before = 7 ∷ []; expected = outcome_of 31 1 19 19 11 0 (7 ∷ []) }
    ∷ record { text = "2 1 2\n0 0 0 0.25 a\n0 0 1 0.75 a"; before = replicate 25 7; expected = outcome_of 31 1 19 19 12 0 (replicate 25 7) }
    -- 31 at the text's end: an empty stretch, with file 1
    ∷ record { text = "2 1 3\n0 0 0 0.25 a\n0 0 1 0.75 a\n"; before = []; expected = outcome_of 31 1 32 32 0 0 [] }
    ∷ record { text = ""; before = 7 ∷ []; expected = outcome_of 31 1 0 0 0 0 (7 ∷ []) }
    ∷ []

pub prism-cases : Each (λ (c : Refused). read_prism limits (bytes_of c.text) ≡ refused_at c.number c.place) refusals × Each (λ (c : Refused). read_prism few_lines (bytes_of c.text) ≡ refused_at c.number c.place) line_refusals × Each (λ (c : Refused). read_prism few_names (bytes_of c.text) ≡ refused_at c.number c.place) name_refusals × Each (λ (c : Held). prism_outcome limits (bytes_of c.text) (replicate (length c.file) 7) ≡ outcome_of 0 0 0 0 0 (length c.file) c.file) models × Each (λ (c : Within). size_or (read_prism c.limits (bytes_of c.text)) ≡ (0, c.size)) withins × Each (λ (c : PrismCase). prism_outcome limits (bytes_of c.text) c.before ≡ c.expected) prism_outcomes
unfolding if_less if_same if_true both is_digit all_digits value_from value_of is_number digits_before decimal divisor_within divisor divisor_of two_bytes entries_bytes transition_bytes transitions_bytes head_bytes labels_bytes model_bytes sum_over start_with pieces fraction ten_thousandths all_shown is_name line_by fields_line read_line head_by fields_head read_head same_bytes begins_with place_among action_of with_name total_of last_target choices_with choices_of goes_on follows fits begins extends with_begun with_extended unless_total at_end last_piece step_on step_begins step_by step_read step after_step read_lines read_headed read_pieces read_prism entry_over transition_over transition_of held_model bytes_of size_or Each refusal_in answer_without_place unwritten filled_with filled_each filled room_for files_outcome text_outcome prism_outcome refusals line_refusals name_refusals models withins quarters prism_outcomes
prism-cases = (
  (refl, (refl, (refl, (refl, (refl, (refl, (refl, (refl, (refl, (refl, (refl, (refl, (refl, (refl, (refl, (refl, (refl, (refl, (refl, (refl, (refl, (refl, (refl, (refl, (refl, (refl, (refl, (refl, (refl, (refl, (refl, (refl, (refl, (refl, (refl, (refl, (refl, (refl, (refl, (refl, (refl, (refl, (refl, (refl, (refl, (refl, (refl, (refl, (refl, (refl, (refl, (refl, (refl, (refl, (refl, (refl, (refl, (refl, (refl, (refl, (refl, (refl, (refl, (refl, (refl, (refl, (refl, (refl, (refl, (refl, (refl, (refl, (refl, (refl, (refl, (refl, (refl, (refl, (refl, (refl, (refl, (refl, (refl, (refl, (refl, (refl, (refl, (refl, (refl, (refl, (refl, (refl, (refl, (refl, (refl, (refl, (refl, (refl, (refl, (refl, (refl, tt))))))))))))))))))))))))))))))))))))))))))))))))))))))))))))))))))))))))))))))))))))))))))))))))))))),
  (refl, (refl, (refl, (refl, (refl, (refl, (refl, (refl, (refl, tt))))))))),
  (refl, (refl, (refl, tt))),
  (refl, (refl, (refl, (refl, (refl, tt))))),
  (refl, (refl, (refl, tt))),
  (refl, (refl, (refl, (refl, (refl, (refl, (refl, (refl, (refl, tt))))))))),
)

-- 31 names, and 32: 31 at the line of the last
pub name-cases : (size_or (read_prism limits (bytes_of "1 31 31\n" ++ named_lines 31 0)) ≡ (0, 319)) × (read_prism limits (bytes_of "1 32 32\n" ++ named_lines 32 0) ≡ refused_at 31 391)
unfolding if_less if_same if_true both is_digit all_digits value_from value_of is_number digits_before decimal divisor_within divisor divisor_of two_bytes entries_bytes transition_bytes transitions_bytes head_bytes labels_bytes model_bytes sum_over start_with pieces fraction ten_thousandths all_shown is_name line_by fields_line read_line head_by fields_head read_head same_bytes begins_with place_among action_of with_name total_of last_target choices_with choices_of goes_on follows fits begins extends with_begun with_extended unless_total at_end last_piece step_on step_begins step_by step_read step after_step read_lines read_headed read_pieces read_prism entry_over transition_over transition_of held_model bytes_of size_or choice_lines named_lines
name-cases = (refl, refl)

-- 256 choices, and 257: 31 at the line of the last, or 32 where the one before does not add up to 1
pub choice-cases : (size_or (read_prism limits (bytes_of "1 256 256\n" ++ choice_lines 256 0)) ≡ (0, 2569)) × (read_prism limits (bytes_of "1 256 256\n" ++ choice_lines 257 0) ≡ refused_at 31 2460) × (read_prism limits (bytes_of "1 256 256\n" ++ (choice_lines 255 0 ++ (bytes_of "0 255 0 0.5\n" ++ choice_lines 1 256))) ≡ refused_at 32 2450)
unfolding if_less if_same if_true both is_digit all_digits value_from value_of is_number digits_before decimal divisor_within divisor divisor_of two_bytes entries_bytes transition_bytes transitions_bytes head_bytes labels_bytes model_bytes sum_over start_with pieces fraction ten_thousandths all_shown is_name line_by fields_line read_line head_by fields_head read_head same_bytes begins_with place_among action_of with_name total_of last_target choices_with choices_of goes_on follows fits begins extends with_begun with_extended unless_total at_end last_piece step_on step_begins step_by step_read step after_step read_lines read_headed read_pieces read_prism entry_over transition_over transition_of held_model bytes_of size_or choice_lines named_lines
choice-cases = (refl, refl, refl)
