-- The rule of a lock's table, what its steps tell, and how views are cut and joined.
-- Word 0 is 0 while the state is at home, in the one slot; 1 while a pass has it out; and 2 where another pass may
-- wait for it too. Word 1 is the length of the state's list.
use Rattle.std.specs.Prelude.{◌≡◌, ◌≢◌, ℕ, ◌+◌, ◌<◌, ◌≤◌, ◌⊎◌, max, ◌==◌, if◌then◌else◌, Bool, true, false, List, [], ◌∷◌, ◌++◌, length, slice_index, Option, Some, None}
use mathlib.Core.Option.{some}
use lib.ListN.{get_elem?}
use Rattle.atomic_table.specs.Table.{State, Me, Step}
use Rattle.pass_lock.specs.Lists.{Has, without, longer, StartsWith, entries_of, GoesOn}
use Rattle.pass_lock.specs.declared.view.View.{View}

module _ {E T : Type 0} where
  abbrev pub HoldsNumber : View E T → ℕ → Type 0
  HoldsNumber v n = Has v.numbers n ⊎ Has v.told_numbers n

  -- no number stands in two views, and each is below the count that the view of number 0 has
  pub record Dealt (views : List (View E T)) : Type 0 where
    pub apart : (i j n : ℕ) (v w : View E T) → get_elem? views i ≡ some v → get_elem? views j ≡ some w → HoldsNumber v n → HoldsNumber w n → i ≡ j
    pub below : (i j n : ℕ) (v w : View E T) → get_elem? views i ≡ some v → get_elem? views j ≡ some w → HoldsNumber v 0 → HoldsNumber w n → n < v.made

  module _ (belongs : E → ℕ → Bool) where
    -- what the view v of the seat j is worth, where the list is log and the lock's terms are about
    pub record Knows (locked : ℕ) (log : List E) (about : T) (holder j : ℕ) (v : View E T) : Type 0 where
      pub list : GoesOn belongs v.numbers v.seen log
      pub told : GoesOn belongs v.told_numbers v.told log
      pub holding : v.holds ≡ true → (locked ≢ 0) × (j ≡ holder) × (v.seen ≡ log)
      pub numbered : v.holds ≡ true → (n : ℕ) × Has v.numbers n
      pub agreed : (n : ℕ) → HoldsNumber v n → v.terms ≡ Some about
      pub unmade : HoldsNumber v 0 → (n : ℕ) → v.made ≤ n → entries_of belongs n log ≡ []

module _ {S E T : Type 0} (entries : S → List E) (belongs : E → ℕ → Bool) (terms : S → T) where
  -- one list, of the length of word 1: the state's, where it is at home, and what the holder has seen, where it is out
  pub record Kept (s : State (Option S) (View E T)) : Type 0 where
    pub log : List E
    pub about : T
    pub holder : ℕ
    pub wide : length s.words ≡ 2
    pub counted : slice_index s.words 1 ≡ length log
    pub home : slice_index s.words 0 ≡ 0 → (x : S) × (get_elem? s.homes 0 ≡ some (some (Some x))) × (entries x ≡ log) × (terms x ≡ about)
    pub held : slice_index s.words 0 ≢ 0 → (v : View E T) × (get_elem? s.views holder ≡ some v) × (v.holds ≡ true)
    pub each : (j : ℕ) (v : View E T) → get_elem? s.views j ≡ some v → Knows belongs (slice_index s.words 0) log about holder j v
    pub dealt : Dealt s.views

  -- the view of the first pass
  abbrev pub first_view : S → View E T
  first_view x = record { seen = entries x; numbers = 0 ∷ []; told = []; told_numbers = []; made = 1; holds = false; terms = Some (terms x) }

-- the count of numbers goes with number 0
abbrev pub made_with : ℕ → ℕ → ℕ
made_with n made = if n == 0 then made else 0

module _ {E T : Type 0} where
  abbrev pub holding : View E T → List E → View E T
  holding v log = record { seen = log; numbers = v.numbers; told = v.told; told_numbers = v.told_numbers; made = v.made; holds = true; terms = v.terms }

  abbrev pub idle : View E T → View E T
  idle v = record { seen = v.seen; numbers = v.numbers; told = v.told; told_numbers = v.told_numbers; made = v.made; holds = false; terms = v.terms }

  -- a pass of these numbers alone, which has seen as much
  abbrev pub with_numbers : List ℕ → ℕ → View E T → View E T
  with_numbers numbers made v = record { seen = v.seen; numbers = numbers; told = []; told_numbers = []; made = made; holds = false; terms = v.terms }

  abbrev pub counted_up : View E T → View E T
  counted_up v = with_numbers v.numbers (v.made + 1) v

  -- of the next number
  abbrev pub fresh : View E T → View E T
  fresh v = with_numbers (v.made ∷ []) 0 v

  abbrev pub left_without : ℕ → View E T → View E T
  left_without n v = with_numbers (without n v.numbers) v.made v

  abbrev pub only : ℕ → View E T → View E T
  only n v = with_numbers (n ∷ []) (made_with n v.made) v

  -- of no number
  abbrev pub note : View E T → View E T
  note v = with_numbers [] 0 v

  -- the second's list and numbers beside those of the first, until a look at the table
  abbrev pub beside : View E T → View E T → View E T
  beside v w = record { seen = v.seen; numbers = v.numbers; told = w.seen; told_numbers = w.numbers; made = max v.made w.made; holds = false; terms = v.terms }

  abbrev pub spent : View E T
  spent = record { seen = []; numbers = []; told = []; told_numbers = []; made = 0; holds = false; terms = None }

  -- what stood beside has been taken in
  abbrev pub settled : View E T → View E T
  settled v = record { seen = longer v.seen v.told; numbers = v.numbers ++ v.told_numbers; told = []; told_numbers = []; made = v.made; holds = false; terms = v.terms }

module _ {S E T : Type 0} where
  -- the state is at home again
  abbrev pub released : Step (Option S) → Me (Option S) (View E T) → ℕ → Me (Option S) (View E T) → Type 0
  released st m r m' = (m'.0 ≡ idle m.0) × (m'.1 ≡ [])

  module _ (entries : S → List E) where
    -- the holder's list is that of the state which it is about to put back
    abbrev pub raised : Step (Option S) → Me (Option S) (View E T) → ℕ → Me (Option S) (View E T) → Type 0
    raised st m r m' = (m'.1 ≡ m.1) × ((y : S) → m.1 ≡ (0, Some y) ∷ [] → m'.0 ≡ holding m.0 (entries y))

  module _ (belongs : E → ℕ → Bool) where
    -- the pass of number 0 finds no entry of a number that was not made
    abbrev pub looked : Step (Option S) → Me (Option S) (View E T) → ℕ → Me (Option S) (View E T) → Type 0
    looked st m r m' = (m' ≡ m) × (HoldsNumber m.0 0 → (0 < m.0.made) × ((n : ℕ) → m.0.made ≤ n → entries_of belongs n m.0.seen ≡ []))

    -- what was told is taken in: each of the two lists begins the longer, and each number's entries are as they were
    abbrev pub merged : Step (Option S) → Me (Option S) (View E T) → ℕ → Me (Option S) (View E T) → Type 0
    merged st m r m' =
        (m'.0 ≡ settled m.0) × (m'.1 ≡ m.1)
        × StartsWith (longer m.0.seen m.0.told) m.0.seen × StartsWith (longer m.0.seen m.0.told) m.0.told
        × ((n : ℕ) → Has m.0.numbers n → entries_of belongs n (longer m.0.seen m.0.told) ≡ entries_of belongs n m.0.seen)
        × ((n : ℕ) → Has m.0.told_numbers n → entries_of belongs n (longer m.0.seen m.0.told) ≡ entries_of belongs n m.0.told)

  module _ (entries : S → List E) (belongs : E → ℕ → Bool) (terms : S → T) where
    -- the state is out with the seat: its list goes on from what the seat had seen
    abbrev pub HasTaken : Me (Option S) (View E T) → Me (Option S) (View E T) → Type 0
    HasTaken m m' =
        (x : S)
        × (m'.0 ≡ holding m.0 (entries x))
        × (m'.1 ≡ (0, Some x) ∷ m.1)
        × GoesOn belongs m.0.numbers m.0.seen (entries x)
        × (m.0.terms ≡ Some (terms x))

    -- the lock was free, and is taken; or nothing changed
    abbrev pub took : Step (Option S) → Me (Option S) (View E T) → ℕ → Me (Option S) (View E T) → Type 0
    took st m r m' = (r ≡ 0 → HasTaken m m') × (r ≢ 0 → m' ≡ m)
