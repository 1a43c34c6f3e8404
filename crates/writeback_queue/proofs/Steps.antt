-- What is kept of the members tells the history still, after each kind of entry.
use Rattle.std.proofs.Common.{◌≡◌, ℕ, ◌+◌, ◌-◌, ◌<◌, ◌≤◌, ◌&&◌, Bool, true, false, not, List, [], ◌∷◌, ◌++◌, length, get_or, map, cond, refl, ap, sym, ◌∙◌, Option, Some, None, arith, subst, inl, inr, add_comm}
use Rattle.std.proofs.Math.ListN.{set}
use Rattle.std.specs.List.{find, remove, count_by, position, position_or_len}
use Rattle.std.proofs.lemmas.Bool.{cases_Bool, or_left, and_parts, and_from, not-true, or_right, leb-false, leb-true, le-leb, ltb-false}
use Rattle.std.proofs.lemmas.List.{map_push, get_or-map, length-map}
use Rattle.std.proofs.lemmas.List.Sums.{sum_by-cons, sum_by-append, sum_by-set, sum_by-remove, count_by-le-length}
use Rattle.std.specs.List.{All}
use Rattle.std.specs.Prelude.{unwrap_or, nat_le, nat_lt}
use Rattle.std.proofs.lemmas.List.Elements.{All-head, All-tail}
use Rattle.std.proofs.lemmas.List.Quantifiers.{position-Some}
use mir.Val.{bool_byte}
use Rattle.vfs_names.specs.declared.who.ItemId.{ItemId}
use Rattle.vfs_names.specs.declared.who.By.{By}
use Rattle.writeback_queue.specs.declared.entry.QueueKind.TheVariants.{Add, Remove, SetDue, Take, Fail}
use Rattle.writeback_queue.specs.declared.entry.QueueEntry.{QueueEntry}
use Rattle.writeback_queue.specs.declared.entry.QueueTerms.{QueueTerms}
use Rattle.writeback_queue.specs.declared.member.Member.{Member}
use Rattle.writeback_queue.specs.History.{same, is_member, is_taken, is_waiting, is_uploading, is_add_of, is_fail_of, since_add, fails_of, delay, due_moment, members, uploads}
use Rattle.writeback_queue.specs.Legal.{IsLegal, IsNext, IsNothingDue, IsNotAfter}
use Rattle.writeback_queue.specs.Members.{row, rows_of, Tells, is_due, IsFirst, IsFirstDue}
use Rattle.writeback_queue.proofs.Items.{has, has_members, members_apart, eq_from_same, same_itself, flip}
use Rattle.writeback_queue.proofs.Rows.{AgreeBeside, map_beside, find_row, set_row, remove_row, has_at}

-- a member of the queue is in the list of members
all_members : (past : List QueueEntry) (item : ItemId) → has (members past) item ≡ true → is_member past item ≡ true
all_members past item h = sym (has_members past item) ∙ h

count_rows : (write_back : ℕ) (past : List QueueEntry) (items : List ItemId) → ((item : ItemId) → has items item ≡ true → is_member past item ≡ true)
    → count_by (λ m. m.uploading) (map (λ item. row write_back past item) items) ≡ count_by (λ item. is_uploading past item) items
count_rows write_back past [] all = refl
count_rows write_back past (x ∷ xs) all =
    let here : is_member past x ≡ true = all x (or_left (same x x) (has xs x) (same_itself x)) in
    let rest = count_rows write_back past xs (λ item h. all item (or_right (same x item) (has xs item) h)) in
    sum_by-cons (λ (m : Member). cond m.uploading 1 0) (row write_back past x) (map (λ item. row write_back past item) xs)
    ∙ (ap (λ n. cond (is_taken past x) 1 0 + n) rest
    ∙ sym (sum_by-cons (λ item. cond (is_uploading past item) 1 0) x xs ∙ ap (λ b. cond (b && is_taken past x) 1 0 + count_by (λ item. is_uploading past item) xs) here))

-- how many members are uploading, counted in what is kept of them
pub uploads_rows : (write_back : ℕ) (past : List QueueEntry) → uploads past ≡ count_by (λ m. m.uploading) (rows_of write_back past)
uploads_rows write_back past = sym (count_rows write_back past (members past) (all_members past))

-- what is kept of an item, if anything
pub find_kept : (terms : QueueTerms) (past : List QueueEntry) (kept : List Member) (n : ℕ) → Tells terms past kept n → (item : ItemId)
    → find (λ m. same m.item item) kept ≡ cond (is_member past item) (Some (row terms.write_back past item)) None
find_kept terms past kept n tells item =
    rw tells.rows (find_row (λ i. row terms.write_back past i) (λ i. refl) item (members past)
    ∙ ap (λ b. cond b (Some (row terms.write_back past item)) None) (has_members past item))

-- the row of an item that stands at a place
pub record StandsAt (terms : QueueTerms) (past : List QueueEntry) (kept : List Member) (item : ItemId) (at : ℕ) (m : Member) : Type 0 where
  pub inside : at < length kept
  pub read : get_or kept at m ≡ m
  pub is_inside : at < length (members past)
  pub here : same (get_or (members past) at item) item ≡ true
  pub is_row : m ≡ row terms.write_back past item
  pub is_there : is_member past item ≡ true

pub stands : (terms : QueueTerms) (past : List QueueEntry) (kept : List Member) (n : ℕ) → Tells terms past kept n → (item : ItemId) (at : ℕ) (m : Member)
    → at < length kept → m ≡ get_or kept at m → same m.item item ≡ true → StandsAt terms past kept item at m
stands terms past kept n tells item at m within read named =
    let f : ItemId → Member = λ i. row terms.write_back past i in
    let inside : at < length (members past) = omega (arith, within, ap length tells.rows, length-map (members past) f) in
    let stands : m ≡ f (get_or (members past) at item) =
    read ∙ (ap (λ (ms : List Member). get_or ms at m) tells.rows ∙ get_or-map f (members past) at item m inside) in
    let here : same (get_or (members past) at item) item ≡ true = ap (λ (r : Member). same r.item item) (sym stands) ∙ named in
    record {
      inside = within;
      read = sym read;
      is_inside = inside;
      here = here;
      is_row = stands ∙ ap f (eq_from_same (get_or (members past) at item) item here);
      is_there = all_members past item (has_at (members past) item at item inside here);
    }

-- the same where the place was found by the item
pub stands_at : (terms : QueueTerms) (past : List QueueEntry) (kept slice : List Member) (n : ℕ) → Tells terms past kept n → slice ≡ kept → (item : ItemId) (at : ℕ) (o : Option ℕ) (m : Member)
    → o ≡ position (λ r. same r.item item) slice → o ≡ Some at → m ≡ get_or kept at m → StandsAt terms past kept item at m
stands_at terms past kept slice n tells e item at o m found some read =
    let place = position-Some (λ (r : Member). same r.item item) kept at m (ap (position (λ (r : Member). same r.item item)) (sym e) ∙ (sym found ∙ some)) in
    stands terms past kept n tells item at m place.0 read (ap (λ (r : Member). same r.item item) read ∙ place.1)

-- what was looked up of an item
pub seen : (terms : QueueTerms) (past : List QueueEntry) (kept slice : List Member) (n : ℕ) → Tells terms past kept n → slice ≡ kept → (item : ItemId) (o : Option Member)
    → o ≡ find (λ m. same m.item item) slice → o ≡ cond (is_member past item) (Some (row terms.write_back past item)) None
seen terms past kept slice n tells e item o found = found ∙ (ap (find (λ m. same m.item item)) e ∙ find_kept terms past kept n tells item)

-- f is what is kept before an entry that names an item, and g after it
beside_add : (write_back : ℕ) (past : List QueueEntry) (by : By) (item : ItemId) (due : ℕ)
    → AgreeBeside (λ i. row write_back past i) (λ i. row write_back (record { by = by; kind = Add item due } ∷ past) i) item
beside_add write_back past by item due other h = rw (flip item other h) refl

beside_set_due : (write_back : ℕ) (past : List QueueEntry) (by : By) (item : ItemId) (due : ℕ)
    → AgreeBeside (λ i. row write_back past i) (λ i. row write_back (record { by = by; kind = SetDue item due } ∷ past) i) item
beside_set_due write_back past by item due other h = rw (flip item other h) refl

beside_take : (write_back : ℕ) (past : List QueueEntry) (by : By) (item : ItemId)
    → AgreeBeside (λ i. row write_back past i) (λ i. row write_back (record { by = by; kind = Take item } ∷ past) i) item
beside_take write_back past by item other h = rw (flip item other h) refl

beside_fail : (write_back : ℕ) (past : List QueueEntry) (by : By) (item : ItemId)
    → AgreeBeside (λ i. row write_back past i) (λ i. row write_back (record { by = by; kind = Fail item } ∷ past) i) item
beside_fail write_back past by item other h = rw (flip item other h) refl

-- a failure counts
fails_more : (past : List QueueEntry) (by : By) (item : ItemId) → fails_of (record { by = by; kind = Fail item } ∷ past) item ≡ fails_of past item + 1
fails_more past by item =
    sum_by-cons (λ (e : QueueEntry). cond (is_fail_of item e.kind) 1 0) (record { by = by; kind = Fail item }) (since_add past item)
    ∙ rw (same_itself item) (add_comm 1 (fails_of past item))

-- how many are uploading, as it is kept
abbrev pub ups : List Member → ℕ
ups kept = count_by (λ m. m.uploading) kept

told : (terms : QueueTerms) (past : List QueueEntry) (kept : List Member) (n : ℕ) → IsLegal terms past → kept ≡ rows_of terms.write_back past → n ≡ ups kept → Tells terms past kept n
told terms past kept n legal rows count = record {
  legal = legal;
  rows = rows;
  count = count ∙ (ap ups rows ∙ sym (uploads_rows terms.write_back past));
}

counted : (terms : QueueTerms) (past : List QueueEntry) (kept : List Member) (n : ℕ) → Tells terms past kept n → n ≡ ups kept
counted terms past kept n tells = tells.count ∙ (uploads_rows terms.write_back past ∙ ap ups (sym tells.rows))

-- how a written row changes the count
ups_set : (kept : List Member) (at : ℕ) (m y : Member) → at < length kept → get_or kept at m ≡ m → ups (set kept at y) + cond m.uploading 1 0 ≡ ups kept + cond y.uploading 1 0
ups_set kept at m y inside read =
    ap (λ (r : Member). ups (set kept at y) + cond r.uploading 1 0) (sym read) ∙ sum_by-set (λ (r : Member). cond r.uploading 1 0) kept at y m inside

-- the item waits from now on
pub adds : (terms : QueueTerms) (past : List QueueEntry) (kept : List Member) (n : ℕ) → Tells terms past kept n → (by : By) (item : ItemId) (due : ℕ)
    → is_member past item ≡ false → by.pass ≡ item.0 + 1
    → Tells terms (record { by = by; kind = Add item due } ∷ past) (kept ++ record { item = item; due = due; fails = 0; uploading = false } ∷ []) n
adds terms past kept n tells by item due absent pass =
    let g : ItemId → Member = λ i. row terms.write_back (record { by = by; kind = Add item due } ∷ past) i in
    let new : record { item = item; due = due; fails = 0; uploading = false } ≡ g item = rw (same_itself item) refl in
    let others = map_beside (λ i. row terms.write_back past i) g item (beside_add terms.write_back past by item due) (members past) (has_members past item ∙ absent) in
    told _ _ _ _ ((absent, pass), tells.legal)
    (rw (map_push g (members past) item) (ap (λ ms. ms ++ record { item = item; due = due; fails = 0; uploading = false } ∷ []) (tells.rows ∙ others) ∙ ap (λ m. map g (members past) ++ m ∷ []) new))
    (omega (arith, counted terms past kept n tells, sum_by-append (λ (m : Member). cond m.uploading 1 0) kept (record { item = item; due = due; fails = 0; uploading = false } ∷ [])))

-- the waiting item is due at another moment
pub moves : (terms : QueueTerms) (past : List QueueEntry) (kept : List Member) (n : ℕ) → Tells terms past kept n → (by : By) (item : ItemId) (due : ℕ)
    → is_waiting past item ≡ true → (at : ℕ) (m : Member) → StandsAt terms past kept item at m
    → Tells terms (record { by = by; kind = SetDue item due } ∷ past) (set kept at (record m { due = due })) n
moves terms past kept n tells by item due waits at m s =
    let g : ItemId → Member = λ i. row terms.write_back (record { by = by; kind = SetDue item due } ∷ past) i in
    let new : record m { due = due } ≡ g item = rw (s.is_row, same_itself item) refl in
    told _ _ _ _ (waits, tells.legal)
    (rw (tells.rows, new) (set_row (λ i. row terms.write_back past i) g item (beside_set_due terms.write_back past by item due) (members past) at item (members_apart terms past tells.legal) s.is_inside s.here))
    (omega (arith, counted terms past kept n tells, ups_set kept at m (record m { due = due }) s.inside s.read))

-- the item's upload begins
pub takes : (terms : QueueTerms) (past : List QueueEntry) (kept : List Member) (n : ℕ) → Tells terms past kept n → (by : By) (item : ItemId)
    → IsNext terms.write_back past by.now item → n < terms.transfers → (at : ℕ) (m : Member) → StandsAt terms past kept item at m
    → Tells terms (record { by = by; kind = Take item } ∷ past) (set kept at (record m { uploading = true })) (n + 1)
takes terms past kept n tells by item next free at m s =
    let g : ItemId → Member = λ i. row terms.write_back (record { by = by; kind = Take item } ∷ past) i in
    let new : record m { uploading = true } ≡ g item = rw (s.is_row, same_itself item) refl in
    let waits : m.uploading ≡ false = ap (λ (r : Member). r.uploading) s.is_row ∙ not-true (is_taken past item) (and_parts (is_member past item) (not (is_taken past item)) next.waits).1 in
    let up = ups_set kept at m (record m { uploading = true }) s.inside s.read in
    let up' : ups (set kept at (record m { uploading = true })) + 0 ≡ ups kept + 1 = subst (λ (b : Bool). ups (set kept at (record m { uploading = true })) + cond b 1 0 ≡ ups kept + 1) waits up in
    told _ _ _ _ ((next, rw (← tells.count) free), tells.legal)
    (rw (tells.rows, new) (set_row (λ i. row terms.write_back past i) g item (beside_take terms.write_back past by item) (members past) at item (members_apart terms past tells.legal) s.is_inside s.here))
    (omega (arith, counted terms past kept n tells, up'))

-- the item's upload failed
pub fails_again : (terms : QueueTerms) (past : List QueueEntry) (kept : List Member) (n : ℕ) → Tells terms past kept n → (by : By) (item : ItemId) (due fails : ℕ)
    → is_uploading past item ≡ true → (at : ℕ) (m : Member) → StandsAt terms past kept item at m
    → fails ≡ m.fails + 1 → due ≡ by.now + delay terms.write_back fails
    → Tells terms (record { by = by; kind = Fail item } ∷ past) (set kept at (record { item = m.item; due = due; fails = fails; uploading = false })) (n - 1)
fails_again terms past kept n tells by item due fails uploads at m s f d =
    let g : ItemId → Member = λ i. row terms.write_back (record { by = by; kind = Fail item } ∷ past) i in
    let more : fails ≡ fails_of (record { by = by; kind = Fail item } ∷ past) item = f ∙ (ap (λ (r : Member). r.fails + 1) s.is_row ∙ sym (fails_more past by item)) in
    let new : record { item = m.item; due = due; fails = fails; uploading = false } ≡ g item = rw (d, more, s.is_row, same_itself item) refl in
    let up : m.uploading ≡ true = ap (λ (r : Member). r.uploading) s.is_row ∙ (and_parts (is_member past item) (is_taken past item) uploads).1 in
    let down = ups_set kept at m (record { item = m.item; due = due; fails = fails; uploading = false }) s.inside s.read in
    let down' : ups (set kept at (record { item = m.item; due = due; fails = fails; uploading = false })) + 1 ≡ ups kept + 0 =
    subst (λ (b : Bool). ups (set kept at (record { item = m.item; due = due; fails = fails; uploading = false })) + cond b 1 0 ≡ ups kept + 0) up down in
    told _ _ _ _ (uploads, tells.legal)
    (rw (tells.rows, new) (set_row (λ i. row terms.write_back past i) g item (beside_fail terms.write_back past by item) (members past) at item (members_apart terms past tells.legal) s.is_inside s.here))
    (omega (arith, counted terms past kept n tells, down'))

-- the item is no member any more
pub removes : (terms : QueueTerms) (past : List QueueEntry) (kept : List Member) (n : ℕ) → Tells terms past kept n → (by : By) (item : ItemId)
    → by.pass ≡ item.0 + 1 → (at : ℕ) (m : Member) → StandsAt terms past kept item at m
    → Tells terms (record { by = by; kind = Remove item } ∷ past) (remove kept at) (n - cond m.uploading 1 0)
removes terms past kept n tells by item pass at m s =
    let f : ItemId → Member = λ i. row terms.write_back past i in
    let less = sum_by-remove (λ (r : Member). cond r.uploading 1 0) kept at m s.inside in
    let less' : ups (remove kept at) + cond m.uploading 1 0 ≡ ups kept = ap (λ (r : Member). ups (remove kept at) + cond r.uploading 1 0) (sym s.read) ∙ less in
    told _ _ _ _ ((s.is_there, pass), tells.legal)
    (rw tells.rows (remove_row f f item (λ other h. refl) (members past) at item (members_apart terms past tells.legal) s.is_inside s.here))
    (omega (arith, counted terms past kept n tells, less'))

-- what the counts of a member keep to
pub uploads_some : (terms : QueueTerms) (past : List QueueEntry) (kept : List Member) (n : ℕ) → Tells terms past kept n → (item : ItemId) (at : ℕ) (m : Member)
    → StandsAt terms past kept item at m → cond m.uploading 1 0 ≤ n
uploads_some terms past kept n tells item at m s =
    let less = ups_set kept at m (record m { uploading = false }) s.inside s.read in
    omega (arith, counted terms past kept n tells, less)

-- one is uploading, where a member is
pub one_uploading : (terms : QueueTerms) (past : List QueueEntry) (kept : List Member) (n : ℕ) → Tells terms past kept n → (item : ItemId) (at : ℕ) (m : Member)
    → StandsAt terms past kept item at m → is_uploading past item ≡ true → 1 ≤ n
one_uploading terms past kept n tells item at m s uploads =
    let up : m.uploading ≡ true = ap (λ (r : Member). r.uploading) s.is_row ∙ (and_parts (is_member past item) (is_taken past item) uploads).1 in
    subst (λ (b : Bool). cond b 1 0 ≤ n) up (uploads_some terms past kept n tells item at m s)

since_short : (past : List QueueEntry) (item : ItemId) → length (since_add past item) ≤ length past
since_short [] item = omega arith
since_short (e ∷ older) item = elim (cases_Bool (is_add_of item e.kind)) [
  | inl passes ↦ rw passes (omega arith)
  | inr fails ↦ rw fails (omega (arith, since_short older item))
]

pub fails_fit : (past : List QueueEntry) (item : ItemId) → fails_of past item ≤ length past
fails_fit past item = omega (arith, count_by-le-length (λ (e : QueueEntry). is_fail_of item e.kind) (since_add past item), since_short past item)

-- what holds of all that is kept holds of a member
all_found : (P : Member → Type 0) (p : Member → Bool) (ms : List Member) (m : Member) → All P ms → find p ms ≡ Some m → P m
all_found P p [] m all found = absurd (cc)
all_found P p (x ∷ xs) m all found = elim (cases_Bool (p x)) [
  | inl passes ↦ let e : x ≡ m = ap (λ (o : Option Member). unwrap_or o x) (rw passes at found) in subst P e (All-head P x xs all)
  | inr fails ↦ all_found P p xs m (All-tail P x xs all) (rw fails at found)
]

pub all_kept : (P : Member → Type 0) (terms : QueueTerms) (past : List QueueEntry) (kept : List Member) (n : ℕ) → Tells terms past kept n → All P kept → (item : ItemId)
    → is_member past item ≡ true → P (row terms.write_back past item)
all_kept P terms past kept n tells all item there =
    all_found P (λ m. same m.item item) kept _ all (find_kept terms past kept n tells item ∙ rw there refl)

-- where nothing that is kept is due, no waiting member is
pub nothing_due : (terms : QueueTerms) (past : List QueueEntry) (kept : List Member) (n : ℕ) → Tells terms past kept n → (now : ℕ) → All (λ m. is_due now m ≡ false) kept
    → IsNothingDue terms.write_back past now
nothing_due terms past kept n tells now all item waits =
    let parts = and_parts (is_member past item) (not (is_taken past item)) waits in
    let late = all_kept (λ m. is_due now m ≡ false) terms past kept n tells all item parts.0 in
    leb-false (due_moment terms.write_back past item) now (rw parts.1 at late)

-- what is first of all that is kept and due is next
pub is_next : (terms : QueueTerms) (past : List QueueEntry) (kept : List Member) (n : ℕ) → Tells terms past kept n → (now : ℕ) (item : ItemId) (at : ℕ) (m : Member)
    → StandsAt terms past kept item at m → IsFirst now kept m → IsNext terms.write_back past now item
is_next terms past kept n tells now item at m s first =
    let due = and_parts (not (is_taken past item)) (nat_le (due_moment terms.write_back past item) now) (subst (λ (r : Member). is_due now r ≡ true) s.is_row first.due) in
    record {
      waits = and_from (is_member past item) (not (is_taken past item)) s.is_there due.0;
      due = leb-true (due_moment terms.write_back past item) now due.1;
      least = λ other waits soon.
          let parts = and_parts (is_member past other) (not (is_taken past other)) waits in
          let least = all_kept (λ r. is_due now r ≡ true → IsNotAfter m.due m.item r.due r.item) terms past kept n tells first.least other parts.0 in
          subst (λ (r : Member). IsNotAfter r.due r.item (due_moment terms.write_back past other) other) s.is_row
          (least (and_from (not (is_taken past other)) (nat_le (due_moment terms.write_back past other) now) parts.1 (le-leb (due_moment terms.write_back past other) now soon)));
    }

-- what is next is due
pub next_due : (write_back : ℕ) (past : List QueueEntry) (now : ℕ) (item : ItemId) → IsNext write_back past now item → IsNothingDue write_back past now → ⊥
next_due write_back past now item next nothing = let late = nothing item next.waits in let soon = next.due in omega arith

find_none : (p : Member → Bool) (ms : List Member) → length ms ≤ position_or_len p ms → find p ms ≡ None
find_none p [] far = refl
find_none p (x ∷ xs) far = elim (cases_Bool (p x)) [
  | inl passes ↦ absurd (let far' : length (x ∷ xs) ≤ 0 = rw passes at far in omega arith)
  | inr fails ↦ let far' : length (x ∷ xs) ≤ 1 + position_or_len p xs = rw fails at far in rw fails (find_none p xs (omega arith))
]

past_end : (k n : ℕ) → cond (nat_lt k n) (Some k) None ≡ None → n ≤ k
past_end k n h = elim (cases_Bool (nat_lt k n)) [
  | inl below ↦ absurd (let some : Some k ≡ None = rw below at h in cc)
  | inr above ↦ ltb-false k n above
]

none_there : (b : Bool) (m : Member) → cond b (Some m) None ≡ None → b ≡ false
none_there true m h = cc
none_there false m h = refl

-- an item without a place is no member
pub absent : (terms : QueueTerms) (past : List QueueEntry) (kept slice : List Member) (n : ℕ) → Tells terms past kept n → slice ≡ kept → (item : ItemId) (o : Option ℕ)
    → o ≡ position (λ r. same r.item item) slice → o ≡ None → is_member past item ≡ false
absent terms past kept slice n tells e item o found none =
    let p : Member → Bool = λ r. same r.item item in
    let nowhere : position p kept ≡ None = ap (position p) (sym e) ∙ (sym found ∙ none) in
    none_there (is_member past item) (row terms.write_back past item)
    (sym (find_kept terms past kept n tells item) ∙ find_none p kept (past_end (position_or_len p kept) (length kept) nowhere))

-- one more failure can be counted
pub fails_below : (terms : QueueTerms) (past : List QueueEntry) (kept : List Member) (item : ItemId) (at : ℕ) (m : Member)
    → StandsAt terms past kept item at m → m.fails ≤ length past
fails_below terms past kept item at m s = rw (ap (λ (r : Member). r.fails) s.is_row) (fails_fit past item)

-- a test as a number
pub number_of : (n : ℕ) (b : Bool) → n ≡ bool_byte b → n ≡ cond b 1 0
number_of n true e = e
number_of n false e = e

pub at_most_one : (b : Bool) → cond b 1 0 ≤ 1
at_most_one true = omega arith
at_most_one false = omega arith

-- what was found first is next, and stands where it was found
pub first_next : (terms : QueueTerms) (past : List QueueEntry) (kept slice : List Member) (n : ℕ) → Tells terms past kept n → slice ≡ kept → (now at : ℕ) (m : Member)
    → IsFirstDue now slice at → m ≡ get_or kept at m → StandsAt terms past kept m.item at m × IsNext terms.write_back past now m.item
first_next terms past kept slice n tells e now at m found read =
    let first = subst (λ (ms : List Member). IsFirstDue now ms at) e found in
    let here = stands terms past kept n tells m.item at m first.0 read (same_itself m.item) in
    (here, is_next terms past kept n tells now m.item at m here (subst (λ (r : Member). IsFirst now kept r) (sym read) (first.1 m)))
