-- Document 01, 'The certificate': a certificate as a value, and its bytes.
use Rattle.std.specs.Prelude.{ℕ, ◌-◌, ◌/◌, ◌%◌, List, [], ◌∷◌, ◌++◌, length, get_or, eqb, ℤ, pos, negsuc}
use Rattle.bisimulation.specs.definitions.Choice.{if_true, both}
use Rattle.bisimulation.specs.definitions.StepRule.{Flow}
use Rattle.rules.specs.definitions.Bytes.{two_bytes}

-- 'challenger transition 2, defender t 1; prices .., each 4 bytes, two's complement'
pub record Refutation : Type 0 where
  pub challenger : ℕ
  pub defender : ℕ
  pub prices : List ℤ

-- 'entries of layer 1, transition 2, k 4'
pub record KEntry : Type 0 where
  pub layer : ℕ
  pub transition : ℕ
  pub k : ℕ

-- 'entries of v 1, u 1, w 4'
pub record WEntry : Type 0 where
  pub v : ℕ
  pub u : ℕ
  pub w : ℕ

-- 'D 4; k count 2; entries ..; w count 2; entries ..'
pub record FlowRecord : Type 0 where
  pub D : ℕ
  pub ks : List KEntry
  pub ws : List WEntry

-- the records of a certificate file
pub record Certificate : Type 0 where
  pub refutations : List Refutation
  pub blocks : List ℕ
  pub flows : List FlowRecord

-- a number as a field of four bytes
unfoldable pub four_bytes : ℕ → List ℕ
four_bytes x = two_bytes (x / 65536) ++ two_bytes (x % 65536)

-- 'each 4 bytes, two's complement'
unfoldable pub complement : ℤ → ℕ
complement (pos n) = n
complement (negsuc n) = 0xFFFF_FFFF - n

-- the bytes of a list's elements, one after the other
unfoldable pub list_bytes : {X : Type 0} → (X → List ℕ) → List X → List ℕ
list_bytes f [] = []
list_bytes f (x ∷ xs) = f x ++ list_bytes f xs

unfoldable pub price_bytes : ℤ → List ℕ
price_bytes z = four_bytes (complement z)

abbrev pub prices_bytes : List ℤ → List ℕ
prices_bytes zs = list_bytes price_bytes zs

-- 'refutation, 50 58'
unfoldable pub refutation_bytes : Refutation → List ℕ
refutation_bytes x = 0x50 ∷ 0x58 ∷ (two_bytes x.challenger ++ (x.defender ∷ prices_bytes x.prices))

-- 'blocks, 42 4B'
unfoldable pub blocks_bytes : List ℕ → List ℕ
blocks_bytes blocks = 0x42 ∷ 0x4B ∷ blocks

-- a k entry: 'layer 1, transition 2, k 4'
unfoldable pub k_bytes : KEntry → List ℕ
k_bytes e = e.layer ∷ (two_bytes e.transition ++ four_bytes e.k)

-- a w entry: 'v 1, u 1, w 4'
unfoldable pub w_bytes : WEntry → List ℕ
w_bytes e = e.v ∷ e.u ∷ four_bytes e.w

-- 'flow, 46 4C'
unfoldable pub flow_bytes : FlowRecord → List ℕ
flow_bytes f =
    0x46 ∷ 0x4C ∷ (four_bytes f.D ++ (two_bytes (length f.ks) ++ (list_bytes k_bytes f.ks ++ (two_bytes (length f.ws) ++ list_bytes w_bytes f.ws))))

-- the file of a certificate, whose head has a mark
unfoldable pub certificate_bytes : (mark : ℕ) → Certificate → List ℕ
certificate_bytes mark K =
    two_bytes mark
    ++ (two_bytes (length K.refutations)
    ++ (list_bytes refutation_bytes K.refutations ++ (blocks_bytes K.blocks ++ list_bytes flow_bytes K.flows)))

-- 'absent ones are 0': the k and w of a record, and the flow that they are
unfoldable pub k_in : List KEntry → (layer r : ℕ) → ℕ
k_in [] layer r = 0
k_in (e ∷ es) layer r = if_true (both (eqb e.layer layer) (eqb e.transition r)) e.k (k_in es layer r)

unfoldable pub w_in : List WEntry → (v u : ℕ) → ℕ
w_in [] v u = 0
w_in (e ∷ es) v u = if_true (both (eqb e.v v) (eqb e.u u)) e.w (w_in es v u)

unfoldable pub flow_of : FlowRecord → Flow
flow_of f = record { D = f.D; k = k_in f.ks; w = w_in f.ws }

-- the prices of a record, as they follow each other
unfoldable pub prices_of : Refutation → ℕ → ℤ
prices_of x i = get_or x.prices i (pos 0)
