-- What lines showed, event by event.
use Rattle.std.proofs.Common.{◌≡◌, ◌∙◌, ◌≤◌, ◌++◌, ℕ, List, [], ◌∷◌, length, map, reverse, take, drop, ◌-◌, ap, append-nil, append_assoc, arith, length-drop, refl, sym}
use Rattle.std.proofs.lemmas.Grind.{reverse_onto}
use Rattle.std.proofs.lemmas.List.{drop-append-le, length-map, length-reverse, map-append}
use Rattle.std.proofs.Math.Seq.{drop-length, take-length}
use Rattle.session_text.specs.Lines.{shown_text}
use Rattle.session_text.specs.declared.reply.Record.{Record}
use Rattle.session_text.specs.declared.shown.Shown.{Shown}
use Rattle.session_text.specs.declared.shown.Shown.TheVariants.{Replied}
use Rattle.one_session.specs.Served.{Served}
use Rattle.vfs_top.specs.Event.{Event, Called, Paused, Ticked, before_last, calls_of, earlier, pause_shown, record_of, shown_of}
use Rattle.vfs_top.specs.Transcript.{shown_texts, texts_of}

pub texts_append : (xs ys : List Shown) → shown_texts (xs ++ ys) ≡ shown_texts xs ++ shown_texts ys
texts_append [] ys = refl
texts_append (x ∷ xs) ys = ap (λ l. shown_text x ++ l) (texts_append xs ys) ∙ sym (append_assoc (shown_text x) (shown_texts xs) (shown_texts ys))

map_newest : {A B : Type 0} (f : A → B) (x : A) (xs : List A) → map f (reverse (x ∷ xs)) ≡ map f (reverse xs) ++ f x ∷ []
map_newest f x xs = ap (map f) (reverse_onto xs x []) ∙ map-append f (reverse xs) (x ∷ [])

-- one event more showed its text
pub text_more : (e : Event) (older : List Event) → texts_of (e ∷ older) ≡ texts_of older ++ shown_text (shown_of e)
text_more e older =
    ap shown_texts (map_newest shown_of e older) ∙ texts_append (map shown_of (reverse older)) (shown_of e ∷ [])
    ∙ ap (λ l. texts_of older ++ l) (append-nil (shown_text (shown_of e)))

-- the records of these calls, the oldest first
abbrev pub records_of : List Served → List Record
records_of served = map record_of (reverse served)

abbrev pub replies : List Record → List ℕ
replies records = shown_texts (map Replied records)

pub count_records : (served : List Served) → length (records_of served) ≡ length served
count_records served = length-map (reverse served) record_of ∙ length-reverse served

earlier_fewer : (events : List Event) → length (calls_of (earlier events)) ≤ length (calls_of events)
earlier_fewer [] = omega arith
earlier_fewer (Called d ∷ older) = omega (arith, earlier_fewer older)
earlier_fewer (Paused n pause moment ∷ older) = omega arith
earlier_fewer (Ticked n moment uploads whole ∷ older) = omega arith

-- the replies of the phase that is under way
abbrev pub pending : List Event → List ℕ
pending events = replies (drop (length (calls_of (earlier events))) (records_of (calls_of events)))

one_more : (records : List Record) (r : Record) (k : ℕ) → k ≤ length records → replies (drop k (records ++ r ∷ [])) ≡ replies (drop k records) ++ shown_text (Replied r)
one_more records r k le =
    ap replies (drop-append-le k records (r ∷ []) le) ∙ ap shown_texts (map-append Replied (drop k records) (r ∷ []))
    ∙ texts_append (map Replied (drop k records)) (Replied r ∷ []) ∙ ap (λ l. replies (drop k records) ++ l) (append-nil (shown_text (Replied r)))

all_dropped : (served : List Served) → drop (length served) (records_of served) ≡ []
all_dropped served = ap (λ n. drop n (records_of served)) (sym (count_records served)) ∙ drop-length (records_of served)

pending_more : (d : Served) (older : List Event) → pending (Called d ∷ older) ≡ pending older ++ shown_text (Replied d.done)
pending_more d older =
    let before : ℕ = length (calls_of (earlier older)) in
    let le : before ≤ length (records_of (calls_of older)) = omega (arith, earlier_fewer older, count_records (calls_of older)) in
    ap (λ l. replies (drop before l)) (map_newest record_of d (calls_of older)) ∙ one_more (records_of (calls_of older)) d.done before le

pub told_and_pending : (events : List Event) → texts_of events ≡ texts_of (earlier events) ++ pending events
told_and_pending [] = refl
told_and_pending (Paused n pause moment ∷ older) =
    sym (ap (λ l. texts_of (Paused n pause moment ∷ older) ++ replies l) (all_dropped (calls_of older)) ∙ append-nil (texts_of (Paused n pause moment ∷ older)))
told_and_pending (Ticked n moment uploads whole ∷ older) =
    sym (ap (λ l. texts_of (Ticked n moment uploads whole ∷ older) ++ replies l) (all_dropped (calls_of older)) ∙ append-nil (texts_of (Ticked n moment uploads whole ∷ older)))
told_and_pending (Called d ∷ older) =
    text_more (Called d) older ∙ ap (λ l. l ++ shown_text (Replied d.done)) (told_and_pending older)
    ∙ append_assoc (texts_of (earlier older)) (pending older) (shown_text (Replied d.done)) ∙ ap (λ l. texts_of (earlier older) ++ l) (sym (pending_more d older))

-- what came before the last phase in which something was done showed a front of what came before the phase that is under way
pub last_told : (events : List Event) → (more : List ℕ) × (texts_of (earlier events) ≡ texts_of (before_last events) ++ more)
last_told [] = ([], refl)
last_told (Called d ∷ older) = ([], sym (append-nil (texts_of (earlier older))))
last_told (Paused n pause moment ∷ older) = let text = shown_text (pause_shown n pause moment) in (
  pending older ++ text,
  text_more (Paused n pause moment) older ∙ ap (λ l. l ++ text) (told_and_pending older) ∙ append_assoc (texts_of (earlier older)) (pending older) text,
)
last_told (Ticked n moment uploads whole ∷ older) = let text = shown_text (shown_of (Ticked n moment uploads whole)) in (
  pending older ++ text,
  text_more (Ticked n moment uploads whole) older ∙ ap (λ l. l ++ text) (told_and_pending older) ∙ append_assoc (texts_of (earlier older)) (pending older) text,
)

-- what stands from a place to the end
pub to_the_end : {A : Type 0} (n : ℕ) (l : List A) → take (length l - n) (drop n l) ≡ drop n l
to_the_end n l = ap (λ k. take k (drop n l)) (sym (length-drop n l)) ∙ take-length (drop n l)
