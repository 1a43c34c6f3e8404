-- Which paths lie below a directory, and what stands after an object is put or deleted.
use Rattle.std.proofs.Common.{◌≡◌, ◌≢◌, ◌==◌, ◌<◌, ◌≤◌, ◌+◌, ◌-◌, ◌∙◌, inl, inr, ap, sym, refl, ℕ, ◌++◌, ◌||◌, not, cond, arith, zero, suc, add-one, append_assoc, length, length-append, take, drop, Bool, true, false, List, [], ◌∷◌, Option, Some, None}
use Rattle.std.specs.Prelude.{slice_index, filter, if◌then◌else◌}
use Rattle.std.specs.Option.{option_or}
use Rattle.std.proofs.Math.Seq.{drop-cons, take-append-add, take-append_seam}
use Rattle.std.proofs.lemmas.List.{get_or_at, length-take, take-append-drop}
use Rattle.std.proofs.lemmas.List.Folds.{find-append}
use Rattle.vfs_names.specs.Path.{IsParent, same_text}
use Rattle.vfs_outside.specs.Store.{Dir, SameStore, Thing}
use Rattle.remote_memory.specs.Nodes.{AddsAbove, gives_way, is_below, node_at, store_of, thing_in, thing_of, with_object, without}
use Rattle.remote_memory.specs.declared.node.Node.{Node}
use Rattle.remote_memory.proofs.Listed.{differ_texts, same_texts, texts_differ, texts_same}

-- a path that begins with the directory and a slash lies below it
pub below_by : (dir path rest : List ℕ) → path ≡ dir ++ 47 ∷ rest → is_below dir path ≡ true
below_by dir path rest e = same_texts (dir ++ 47 ∷ []) (take (length (dir ++ 47 ∷ [])) path)
    (sym (ap (take (length (dir ++ 47 ∷ []))) (e ∙ sym (append_assoc dir (47 ∷ []) rest)) ∙ take-append_seam (dir ++ 47 ∷ []) rest))

pub below_rest : (dir path : List ℕ) → is_below dir path ≡ true → (rest : List ℕ) × (path ≡ dir ++ 47 ∷ rest)
below_rest dir path h =
    let n = length (dir ++ 47 ∷ []) in
    let front : dir ++ 47 ∷ [] ≡ take n path = texts_same (dir ++ 47 ∷ []) (take n path) h in
    (drop n path, sym (take-append-drop n path) ∙ ap (λ l. l ++ drop n path) (sym front) ∙ append_assoc dir (47 ∷ []) (drop n path))

false_if : (b : Bool) → (b ≡ true → ⊥) → b ≡ false
false_if true h = absurd (h refl)
false_if false h = refl

same_tests : (a b : Bool) → (a ≡ true → b ≡ true) → (b ≡ true → a ≡ true) → a ≡ b
same_tests true b f g = sym (f refl)
same_tests false true f g = g refl
same_tests false false f g = refl

pub below_none : (dir path : List ℕ) → ((rest : List ℕ) → path ≢ dir ++ 47 ∷ rest) → is_below dir path ≡ false
below_none dir path n = false_if (is_below dir path) (λ h. let r = below_rest dir path h in n r.0 r.1)

-- where a slash of a path below a directory stands
slash_at : (dir path rest : List ℕ) → path ≡ dir ++ 47 ∷ rest → (length dir < length path) × (slice_index path (length dir) ≡ 47)
slash_at dir path rest e = (
  omega (arith, ap length e, length-append dir (47 ∷ rest)),
  ap (λ l. slice_index l (length dir)) e ∙ get_or_at dir 47 rest 0 (length dir) refl,
)

split_at_slash : (path : List ℕ) (i : ℕ) → i < length path → slice_index path i ≡ 47 → path ≡ take i path ++ 47 ∷ drop (i + 1) path
split_at_slash path i lt slash = sym (take-append-drop i path) ∙ ap (λ rest. take i path ++ rest) (drop-cons path i 0 lt ∙ ap (λ x. x ∷ drop (suc i) path) slash ∙ ap (λ n. 47 ∷ drop n path) (sym (add-one i)))

-- nothing lies above the root
pub above_root : (q path : List ℕ) → length path ≡ 0 → is_below q path ≡ false
above_root q path e = below_none q path (λ rest h. absurd (omega (arith, e, (slash_at q path rest h).0)))

-- a path in the root has the root alone above it
pub above_first : (q parent path : List ℕ) → IsParent parent path → length parent ≡ 0 → q ≢ [] → is_below q path ≡ false
above_first q parent path (inl (i, last, e)) none n = below_none q path (λ rest h.
    let s = slash_at q path rest h in
    let long : 1 ≤ length q = some_long q n in
    let zero : i ≡ 0 = omega (arith, none, ap length e, length-take i path, last.inside) in
    last.last (length q) (omega (arith, long, zero)) s.0 s.1) where
      some_long : (l : List ℕ) → l ≢ [] → 1 ≤ length l
      some_long [] m = absurd (m refl)
      some_long (b ∷ bs) m = omega arith
above_first q parent path (inr (free, e)) none n = below_none q path (λ rest h. let s = slash_at q path rest h in free (length q) (omega arith) s.0 s.1)

at_most : (n i : ℕ) → (i + 1 ≤ n → ⊥) → n ≤ i
at_most n i above = first_of (omega (arith, above), grind (arith, above))

less : (n i : ℕ) → n ≤ i → n ≢ i → n < i
less n i le ne = first_of (omega (arith, le, ne), grind (arith, le, ne))

or_right : (a b : Bool) → b ≡ true → (a || b) ≡ true
or_right true b h = refl
or_right false b h = h

or_cases : {P : Type 0} (a b : Bool) → (a ≡ true → P) → (b ≡ true → P) → (a || b) ≡ true → P
or_cases true b f g h = f refl
or_cases false b f g h = g h

or_left_at : (a b : Bool) → (a ≡ false → b ≡ true) → (a || b) ≡ true
or_left_at true b f = refl
or_left_at false b f = f refl

-- the directories above a path are its parent and those above that
pub above_next : (q parent path : List ℕ) → IsParent parent path → length parent ≢ 0 → is_below q path ≡ (same_text parent q || is_below q parent)
above_next q parent path (inr (free, e)) n = absurd (n (ap length e))
above_next q parent path (inl (i, last, e)) n = same_tests (is_below q path) (same_text parent q || is_below q parent) forth back where
  forth : is_below q path ≡ true → (same_text parent q || is_below q parent) ≡ true
  forth h = or_left_at (same_text parent q) (is_below q parent) (λ other.
      let r = below_rest q path h in
      let s = slash_at q path r.0 r.1 in
      let most : length q ≤ i = at_most (length q) i (λ l. last.last (length q) l s.0 s.1) in
      let ne : length q ≢ i = λ same. texts_differ parent q other (e ∙ ap (λ k. take k path) (sym same) ∙ ap (take (length q)) r.1 ∙ take-append_seam q (47 ∷ r.0)) in
      let lt : length q < i = less (length q) i most ne in
      let far : i ≡ length q + suc (i - length q - 1) = omega (arith, lt) in
      below_by q parent (take (i - length q - 1) r.0) (e ∙ ap (λ k. take k path) far ∙ ap (take (length q + suc (i - length q - 1))) r.1 ∙ take-append-add q (47 ∷ r.0) (suc (i - length q - 1))))

  whole : path ≡ parent ++ 47 ∷ drop (i + 1) path
  whole = split_at_slash path i last.inside last.slash ∙ ap (λ l. l ++ 47 ∷ drop (i + 1) path) (sym e)

  back : (same_text parent q || is_below q parent) ≡ true → is_below q path ≡ true
  back = or_cases (same_text parent q) (is_below q parent)
      (λ h. below_by q path (drop (i + 1) path) (whole ∙ ap (λ l. l ++ 47 ∷ drop (i + 1) path) (texts_same parent q h)))
      (λ h. let r = below_rest q parent h in
      below_by q path (r.0 ++ 47 ∷ drop (i + 1) path) (whole ∙ ap (λ l. l ++ 47 ∷ drop (i + 1) path) r.1 ∙ append_assoc q (47 ∷ r.0) (47 ∷ drop (i + 1) path)))

-- what is found in two lists, one after the other
thing_or : (a b : Option Node) → thing_in (option_or a b) ≡ option_or (thing_in a) (thing_in b)
thing_or None b = refl
thing_or (Some x) b = refl

pub things-append : (xs ys : List Node) (q : List ℕ) → thing_in (node_at (xs ++ ys) q) ≡ option_or (thing_in (node_at xs q)) (thing_in (node_at ys q))
things-append xs ys q = ap thing_in (find-append (λ (n : Node). same_text n.path q) xs ys) ∙ thing_or (node_at xs q) (node_at ys q)

pub or_none : (o : Option Thing) → option_or o None ≡ o
or_none None = refl
or_none (Some x) = refl

pub one_thing : (s : Bool) (node : Node) → thing_in (cond s (Some node) None) ≡ (if s then Some (thing_of node.kept) else None)
one_thing true node = refl
one_thing false node = refl

-- no directory but the root stands above
pub adds_no_parent : (path : List ℕ) (nodes : List Node) → ((q : List ℕ) → q ≢ [] → is_below q path ≡ false) → AddsAbove path nodes nodes
adds_no_parent path nodes h q n = sym (ap (λ b. option_or (thing_in (node_at nodes q)) (if b then Some Dir else None)) (h q n) ∙ or_none (thing_in (node_at nodes q)))

pub adds_parent : (path parent : List ℕ) (nodes new : List Node) (node : Node) → ((q : List ℕ) → is_below q path ≡ (same_text parent q || is_below q parent)) → node.path ≡ parent → thing_of node.kept ≡ Dir
    → AddsAbove parent (nodes ++ node ∷ []) new → AddsAbove path nodes new
adds_parent path parent nodes new node h e k a q n =
    a q n ∙ ap (λ o. option_or o (if is_below q parent then Some Dir else None)) (things-append nodes (node ∷ []) q ∙ ap (λ o. option_or (thing_in (node_at nodes q)) o) (one_thing (same_text node.path q) node
    ∙ ap (λ t. if same_text node.path q then Some t else None) k ∙ ap (λ p. if same_text p q then Some Dir else None) e))
    ∙ both (thing_in (node_at nodes q)) (same_text parent q) (is_below q parent)
    ∙ ap (λ b. option_or (thing_in (node_at nodes q)) (if b then Some Dir else None)) (sym (h q)) where
      both : (o : Option Thing) (s u : Bool) → option_or (option_or o (if s then Some Dir else None)) (if u then Some Dir else None) ≡ option_or o (if (s || u) then Some Dir else None)
      both None true u = refl
      both None false u = refl
      both (Some x) s u = refl

-- where nodes of some paths are left out
left_out_by : (g : List ℕ → Bool) (node : Node) (nodes : List Node) (q : List ℕ) (s b : Bool) → same_text node.path q ≡ s → g node.path ≡ b → node_at (filter (λ (n : Node). not (g n.path)) nodes) q ≡ (if g q then None else node_at nodes q)
    → node_at (cond (not b) (node ∷ filter (λ (n : Node). not (g n.path)) nodes) (filter (λ (n : Node). not (g n.path)) nodes)) q ≡ (if g q then None else cond s (Some node) (node_at nodes q))
left_out_by g node nodes q true true hs hb e = e ∙ ap (λ c. if c then None else node_at nodes q) out ∙ sym (ap (λ c. if c then None else Some node) out) where
  out : g q ≡ true
  out = sym (ap g (texts_same node.path q hs)) ∙ hb
left_out_by g node nodes q true false hs hb e = ap (λ c. cond c (Some node) (node_at (filter (λ (n : Node). not (g n.path)) nodes) q)) hs ∙ sym (ap (λ c. if c then None else Some node) (sym (ap g (texts_same node.path q hs)) ∙ hb))
left_out_by g node nodes q false true hs hb e = e
left_out_by g node nodes q false false hs hb e = ap (λ c. cond c (Some node) (node_at (filter (λ (n : Node). not (g n.path)) nodes) q)) hs ∙ e

pub left_out : (g : List ℕ → Bool) (nodes : List Node) (q : List ℕ) → node_at (filter (λ (n : Node). not (g n.path)) nodes) q ≡ (if g q then None else node_at nodes q)
left_out g [] q = none (g q) None refl where
  none : (b : Bool) (o : Option Node) → o ≡ None → o ≡ (if b then None else o)
  none true o e = e
  none false o e = refl
left_out g (node ∷ nodes) q = left_out_by g node nodes q (same_text node.path q) (g node.path) refl refl (left_out g nodes q)

thing_left : (b : Bool) (o : Option Node) → thing_in (if b then None else o) ≡ (if b then None else thing_in o)
thing_left true o = refl
thing_left false o = refl

pub things_left : (g : List ℕ → Bool) (nodes : List Node) (q : List ℕ) → thing_in (node_at (filter (λ (n : Node). not (g n.path)) nodes) q) ≡ (if g q then None else thing_in (node_at nodes q))
things_left g nodes q = ap thing_in (left_out g nodes q) ∙ thing_left (g q) (node_at nodes q)

pub not_zero : (n : ℕ) → false ≡ (n == 0) → n ≢ 0
not_zero zero h z = absurd (cc)
not_zero (suc n) h z = omega (arith, z)

-- the root has no path but its own
pub at_root : (path : List ℕ) → path ≢ [] → same_text path [] ≡ false
at_root path n = differ_texts path [] n

-- an object was put
pub put_stands : (path : List ℕ) (old added new : List Node) (file : Node) (thing : Thing) → path ≢ [] → new ≡ filter (λ (n : Node). not (gives_way path n.path)) old ++ added → AddsAbove path (file ∷ []) added → file.path ≡ path → thing_of file.kept ≡ thing
    → SameStore (store_of new) (with_object path thing (store_of old))
put_stands path old added new file thing ne e a fp ft [] = root (same_text path []) (is_below [] path) (is_below path []) (at_root path ne) (above_root path [] refl) where
  root : (s u d : Bool) → s ≡ false → d ≡ false → Some Dir ≡ (if s then Some thing else (if u then Some Dir else (if d then None else Some Dir)))
  root true u d x y = absurd (cc)
  root false true d x y = refl
  root false false true x y = absurd (cc)
  root false false false x y = refl
put_stands path old added new file thing ne e a fp ft (b ∷ bs) =
    let q = b ∷ bs in
    ap (λ l. thing_in (node_at l q)) e ∙ things-append (filter (λ (n : Node). not (gives_way path n.path)) old) added q
    ∙ ap (λ o. option_or o (thing_in (node_at added q))) (things_left (gives_way path) old q)
    ∙ ap (λ o. option_or (if gives_way path q then None else thing_in (node_at old q)) o) (a q some
    ∙ ap (λ o. option_or o (if is_below q path then Some Dir else None)) (one_thing (same_text file.path q) file ∙ ap (λ t. if same_text file.path q then Some t else None) ft ∙ ap (λ p. if same_text p q then Some thing else None) fp))
    ∙ decide (same_text path q) (is_below q path) (is_below path q) (thing_in (node_at old q)) where
      some : b ∷ bs ≢ []
      some h = cc

      decide : (s u d : Bool) (o : Option Thing) → option_or (if (s || u || d) then None else o) (option_or (if s then Some thing else None) (if u then Some Dir else None)) ≡ (if s then Some thing else (if u then Some Dir else (if d then None else o)))
      decide true u d o = refl
      decide false true d o = refl
      decide false false true o = refl
      decide false false false o = or_none o

-- what stood at a path was deleted
pub deleted_gone : (path : List ℕ) (old new : List Node) → path ≢ [] → new ≡ filter (λ (n : Node). not (same_text path n.path || is_below path n.path)) old → SameStore (store_of new) (without path (store_of old))
deleted_gone path old new ne e [] = root (same_text path []) (is_below path []) (at_root path ne) (above_root path [] refl) where
  root : (s d : Bool) → s ≡ false → d ≡ false → Some Dir ≡ (if (s || d) then None else Some Dir)
  root true d x y = absurd (cc)
  root false true x y = absurd (cc)
  root false false x y = refl
deleted_gone path old new ne e (b ∷ bs) = ap (λ l. thing_in (node_at l (b ∷ bs))) e ∙ things_left (λ p. same_text path p || is_below path p) old (b ∷ bs)
