-- A text is that of one script or is refused at one line, and never both.
use Rattle.std.proofs.Common.{◌≡◌, inl, inr, ℕ, true, false, List, [], ◌∷◌, decimal, slice_index, drop, ap, sym, subst, ◌∙◌, refl, arith}
use Rattle.std.proofs.lemmas.Fmt.{decimal_injective}
use Rattle.vfs_names.specs.declared.calls.How.{How}
use Rattle.session_script.specs.declared.verb.Verb.{Verb}
use Rattle.session_script.specs.declared.verb.Verb.TheVariants as verb
use Rattle.session_script.specs.declared.verb.Control.{Control}
use Rattle.session_script.specs.declared.verb.Control.TheVariants as control
use Rattle.session_script.specs.declared.call.Call.{Call}
use Rattle.session_script.specs.declared.call.Call.TheVariants as call
use Rattle.session_script.specs.declared.call.CallLine.{CallLine}
use Rattle.session_script.specs.declared.call.What.{What}
use Rattle.session_script.specs.declared.call.What.TheVariants as what
use Rattle.session_script.specs.declared.call.Line.{Line}
use Rattle.session_script.specs.declared.why.Why.{Why}
use Rattle.session_script.specs.Words.{words_of, IsSession, session_word, access_word}
use Rattle.session_script.specs.Calls.{AreArguments, Asks, IsLine, verb_of, verb_word, control_word, flag_words, is_how}
use Rattle.session_script.specs.Faults.{Fits, IsMisfit, IsFault, IsArgumentFault, IsCallFault, IsWordFault, IsBadLine, HasBadFlags, begins_as_session, control_places, places_of, handle, file, access}
use Rattle.session_script.specs.Built.{is_built}
use Rattle.session_script.specs.Script.{Does, AreLines, IsRefused, IsFirstRefused}
use Rattle.session_script.proofs.Alone.{same_verb, same_control, control_is_no_session, session_begins, same_misfit, same_fault, AllFit, no_fault}
use Rattle.session_script.proofs.Numbers.{not_true_and_false}
use Rattle.session_script.proofs.Uniqueness.{same_arguments, same_access, first_word, later_words}

-- three words that fit are no misfit
no_open_misfit : (a b c : List ℕ) (flags : List (List ℕ)) (why : Why) → Fits handle a → Fits file b → Fits access c → IsMisfit (places_of verb.Open) (a ∷ b ∷ c ∷ flags) why → ⊥
no_open_misfit a b c flags why fa fb fc (inl m) = m.0 fa
no_open_misfit a b c flags why fa fb fc (inr (_, inl m)) = m.0 fb
no_open_misfit a b c flags why fa fb fc (inr (_, inr (_, inl m))) = m.0 fc
no_open_misfit a b c flags why fa fb fc (inr (_, inr (_, inr m))) = m.1

open_by : (words : List (List ℕ)) (h : ℕ) (p word : List ℕ) (how : How) (why : Why) → Fits handle (decimal h) → Fits file word → is_how how ≡ true → words ≡ decimal h ∷ word ∷ access_word how.access ∷ flag_words how → IsArgumentFault verb.Open words why → ⊥
open_by words h p word how why fh fp good e (inl m) = no_open_misfit (decimal h) word (access_word how.access) (flag_words how) why fh fp (how.access, refl) (subst (λ ws. IsMisfit (places_of verb.Open) ws why) e m)
open_by words h p word how why fh fp good e (inr (bad, _)) =
    let b = subst HasBadFlags e bad in
    b.2.2 how (same_access how.access b.2.0 b.2.1) good refl

no_open_fault : (words : List (List ℕ)) (h : ℕ) (p : List ℕ) (how : How) (why : Why) → AreArguments words (call.Open h p how) → IsArgumentFault verb.Open words why → ⊥
no_open_fault words h p how why f k = open_by words h p f.2 how why (h, f.0, refl) (p, f.3) f.1 f.4 k

-- the words of a call fit their places
no_argument_fault : (words : List (List ℕ)) (c : Call) (why : Why) → AreArguments words c → IsArgumentFault (verb_of c) words why → ⊥
no_argument_fault words (call.Open h p how) why f k = no_open_fault words h p how why f k
no_argument_fault words (call.Read h pos len) why f k = no_fault (places_of verb.Read) words why (subst (AllFit (places_of verb.Read)) (sym f.3) ((h, f.0, refl), ((pos, f.1, refl), ((len, f.2, refl), tt)))) k
no_argument_fault words (call.Write h pos p) why f k = no_fault (places_of verb.Write) words why (subst (AllFit (places_of verb.Write)) (sym f.4) ((h, f.0, refl), ((pos, f.1, refl), ((p, f.3), tt)))) k
no_argument_fault words (call.Size h n) why f k = no_fault (places_of verb.Size) words why (subst (AllFit (places_of verb.Size)) (sym f.2) ((h, f.0, refl), ((n, f.1, refl), tt))) k
no_argument_fault words (call.Close h) why f k = no_fault (places_of verb.Close) words why (subst (AllFit (places_of verb.Close)) (sym f.1) ((h, f.0, refl), tt)) k
no_argument_fault words (call.Stat p) why f k = no_fault (places_of verb.Stat) words why (subst (AllFit (places_of verb.Stat)) (sym f.2) ((p, f.1), tt)) k
no_argument_fault words (call.List p) why f k = no_fault (places_of verb.List) words why (subst (AllFit (places_of verb.List)) (sym f.2) ((p, f.1), tt)) k
no_argument_fault words (call.MakeDir p) why f k = no_fault (places_of verb.MakeDir) words why (subst (AllFit (places_of verb.MakeDir)) (sym f.2) ((p, f.1), tt)) k
no_argument_fault words (call.RemoveDir p) why f k = no_fault (places_of verb.RemoveDir) words why (subst (AllFit (places_of verb.RemoveDir)) (sym f.2) ((p, f.1), tt)) k
no_argument_fault words (call.Unlink p) why f k = no_fault (places_of verb.Unlink) words why (subst (AllFit (places_of verb.Unlink)) (sym f.2) ((p, f.1), tt)) k
no_argument_fault words (call.Rename p q) why f k = no_fault (places_of verb.Rename) words why (subst (AllFit (places_of verb.Rename)) (sym f.4) ((p, f.2), ((q, f.3), tt))) k

-- what is wrong with the words after a verb is one thing
open_misfit_or_flags : (words : List (List ℕ)) (why : Why) → IsMisfit (places_of verb.Open) words why → HasBadFlags words → ⊥
open_misfit_or_flags [] why m b = b
open_misfit_or_flags (a ∷ []) why m b = b
open_misfit_or_flags (a ∷ p ∷ []) why m b = b
open_misfit_or_flags (a ∷ p ∷ c ∷ flags) why m b = no_open_misfit a p c flags why b.0 b.1 (b.2.0, b.2.1) m

same_argument_fault : (v : Verb) (words : List (List ℕ)) (a b : Why) → IsArgumentFault v words a → IsArgumentFault v words b → a ≡ b
same_argument_fault verb.Open words a b (inl m) (inl n) = same_misfit (places_of verb.Open) words a b m n
same_argument_fault verb.Open words a b (inl m) (inr n) = absurd (open_misfit_or_flags words a m n.0)
same_argument_fault verb.Open words a b (inr m) (inl n) = absurd (open_misfit_or_flags words b n m.0)
same_argument_fault verb.Open words a b (inr m) (inr n) = m.1 ∙ sym n.1
same_argument_fault verb.Read words a b m n = same_fault (places_of verb.Read) words a b m n
same_argument_fault verb.Write words a b m n = same_fault (places_of verb.Write) words a b m n
same_argument_fault verb.Size words a b m n = same_fault (places_of verb.Size) words a b m n
same_argument_fault verb.Close words a b m n = same_fault (places_of verb.Close) words a b m n
same_argument_fault verb.Stat words a b m n = same_fault (places_of verb.Stat) words a b m n
same_argument_fault verb.List words a b m n = same_fault (places_of verb.List) words a b m n
same_argument_fault verb.MakeDir words a b m n = same_fault (places_of verb.MakeDir) words a b m n
same_argument_fault verb.RemoveDir words a b m n = same_fault (places_of verb.RemoveDir) words a b m n
same_argument_fault verb.Unlink words a b m n = same_fault (places_of verb.Unlink) words a b m n
same_argument_fault verb.Rename words a b m n = same_fault (places_of verb.Rename) words a b m n

-- the same of the words after a session
same_call_fault : (words : List (List ℕ)) (a b : Why) → IsCallFault words a → IsCallFault words b → a ≡ b
same_call_fault [] a b m n = m ∙ sym n
same_call_fault (word ∷ words) a b (inl m) (inl n) = m.1 ∙ sym n.1
same_call_fault (word ∷ words) a b (inl m) (inr n) = absurd (m.0 n.0 n.1)
same_call_fault (word ∷ words) a b (inr m) (inl n) = absurd (n.0 m.0 m.1)
same_call_fault (word ∷ words) a b (inr m) (inr n) = same_argument_fault m.0 words a b m.2 (subst (λ v. IsArgumentFault v words b) (same_verb n.0 m.0 (sym n.1 ∙ m.1)) n.2)

no_call_fault : (arguments : List (List ℕ)) (c : Call) (why : Why) → AreArguments arguments c → IsCallFault (verb_word (verb_of c) ∷ arguments) why → ⊥
no_call_fault arguments c why f (inl m) = m.0 (verb_of c) refl
no_call_fault arguments c why f (inr m) = no_argument_fault arguments c why f (subst (λ v. IsArgumentFault v arguments why) (same_verb m.0 (verb_of c) (sym m.1)) m.2)

session_or_control : (s : ℕ) (c : Control) (word : List ℕ) → IsSession s → word ≡ session_word s → word ≡ control_word c → ⊥
session_or_control s c word is e f = not_true_and_false (begins_as_session word) (ap begins_as_session e ∙ session_begins s is) (ap begins_as_session f ∙ control_is_no_session c)

begins_or_control : (c : Control) (word : List ℕ) → begins_as_session word ≡ true → word ≡ control_word c → ⊥
begins_or_control c word b f = not_true_and_false (begins_as_session word) b (ap begins_as_session f ∙ control_is_no_session c)

session_or_not : (s : ℕ) (word : List ℕ) → IsSession s → word ≡ session_word s → begins_as_session word ≡ false → ⊥
session_or_not s word is e b = not_true_and_false (begins_as_session word) (ap begins_as_session e ∙ session_begins s is) b

-- the same of the words of a line
same_word_fault : (words : List (List ℕ)) (a b : Why) → IsWordFault words a → IsWordFault words b → a ≡ b
same_word_fault [] a b m n = m ∙ sym n
same_word_fault (first ∷ words) a b (inl (s, is, e, m)) (inl (t, it, f, n)) = same_call_fault words a b m n
same_word_fault (first ∷ words) a b (inl (s, is, e, m)) (inr (inl (p, none, n))) = absurd (none s is e)
same_word_fault (first ∷ words) a b (inl (s, is, e, m)) (inr (inr (inl (c, f, n)))) = absurd (session_or_control s c first is e f)
same_word_fault (first ∷ words) a b (inl (s, is, e, m)) (inr (inr (inr (p, none, n)))) = absurd (session_or_not s first is e p)
same_word_fault (first ∷ words) a b (inr (inl (p, none, m))) (inl (t, it, f, n)) = absurd (none t it f)
same_word_fault (first ∷ words) a b (inr (inl (p, none, m))) (inr (inl (q, other, n))) = m ∙ sym n
same_word_fault (first ∷ words) a b (inr (inl (p, none, m))) (inr (inr (inl (c, f, n)))) = absurd (begins_or_control c first p f)
same_word_fault (first ∷ words) a b (inr (inl (p, none, m))) (inr (inr (inr (q, other, n)))) = absurd (not_true_and_false (begins_as_session first) p q)
same_word_fault (first ∷ words) a b (inr (inr (inl (c, e, m)))) (inl (t, it, f, n)) = absurd (session_or_control t c first it f e)
same_word_fault (first ∷ words) a b (inr (inr (inl (c, e, m)))) (inr (inl (q, other, n))) = absurd (begins_or_control c first q e)
same_word_fault (first ∷ words) a b (inr (inr (inl (c, e, m)))) (inr (inr (inl (d, f, n)))) = same_fault (control_places c) words a b m (subst (λ x. IsFault (control_places x) words b) (same_control d c (sym f ∙ e)) n)
same_word_fault (first ∷ words) a b (inr (inr (inl (c, e, m)))) (inr (inr (inr (q, other, n)))) = absurd (other c e)
same_word_fault (first ∷ words) a b (inr (inr (inr (p, none, m)))) (inl (t, it, f, n)) = absurd (session_or_not t first it f p)
same_word_fault (first ∷ words) a b (inr (inr (inr (p, none, m)))) (inr (inl (q, other, n))) = absurd (not_true_and_false (begins_as_session first) q p)
same_word_fault (first ∷ words) a b (inr (inr (inr (p, none, m)))) (inr (inr (inl (d, f, n)))) = absurd (none d f)
same_word_fault (first ∷ words) a b (inr (inr (inr (p, none, m)))) (inr (inr (inr (q, other, n)))) = m ∙ sym n

-- a line is bad for one reason
same_bad_line : (text : List ℕ) (a b : Why) → IsBadLine text a → IsBadLine text b → a ≡ b
same_bad_line text a b (inl m) (inl n) = m.1 ∙ sym n.1
same_bad_line text a b (inl m) (inr (inl n)) = absurd (m.0 n.0)
same_bad_line text a b (inl m) (inr (inr n)) = absurd (m.0 n.0)
same_bad_line text a b (inr (inl m)) (inl n) = absurd (n.0 m.0)
same_bad_line text a b (inr (inl m)) (inr (inl n)) = m.2 ∙ sym n.2
same_bad_line text a b (inr (inl m)) (inr (inr n)) = absurd (not_true_and_false _ m.1 n.1)
same_bad_line text a b (inr (inr m)) (inl n) = absurd (n.0 m.0)
same_bad_line text a b (inr (inr m)) (inr (inl n)) = absurd (not_true_and_false _ n.1 m.1)
same_bad_line text a b (inr (inr m)) (inr (inr n)) = same_word_fault (words_of text) a b m.2 n.2

-- a line that no session makes and that is in the language isn't bad
control_by : (c : Control) (rest : List (List ℕ)) (why : Why) → AllFit (control_places c) rest → IsWordFault (control_word c ∷ rest) why → ⊥
control_by c rest why f (inl (s, is, e, m)) = session_or_control s c (control_word c) is e refl
control_by c rest why f (inr (inl (p, none, m))) = begins_or_control c (control_word c) p refl
control_by c rest why f (inr (inr (inl (d, e, m)))) = no_fault (control_places c) rest why f (subst (λ x. IsFault (control_places x) rest why) (same_control d c (sym e)) m)
control_by c rest why f (inr (inr (inr (p, none, m)))) = none c refl

no_control_fault : (c : Control) (words rest : List (List ℕ)) (why : Why) → words ≡ control_word c ∷ rest → AllFit (control_places c) rest → IsWordFault words why → ⊥
no_control_fault c words rest why e f h = control_by c rest why f (subst (λ ws. IsWordFault ws why) e h)

session_by : (s : ℕ) (rest : List (List ℕ)) (why : Why) → IsSession s → (IsCallFault rest why → ⊥) → IsWordFault (session_word s ∷ rest) why → ⊥
session_by s rest why is good (inl (t, it, e, m)) = good m
session_by s rest why is good (inr (inl (p, none, m))) = none s is refl
session_by s rest why is good (inr (inr (inl (d, e, m)))) = session_or_control s d (session_word s) is refl e
session_by s rest why is good (inr (inr (inr (p, none, m)))) = session_or_not s (session_word s) is refl p

no_word_fault : (n : ℕ) (words : List (List ℕ)) (a : What) (why : Why) → Asks n words a → IsWordFault words why → ⊥
no_word_fault n words (what.Call c) why f h = session_by c.session (verb_word (verb_of c.call) ∷ f.2) why f.1 (no_call_fault f.2 c.call why f.3) (subst (λ ws. IsWordFault ws why) f.4 h)
no_word_fault n words (what.Advance ms) why f h = no_control_fault control.Advance words (decimal ms ∷ []) why f.1 ((ms, f.0, refl), tt) h
no_word_fault n words what.Tick why f h = no_control_fault control.Tick words [] why f tt h
no_word_fault n words what.Clean why f h = no_control_fault control.Clean words [] why f tt h
no_word_fault n words what.Poll why f h = no_control_fault control.Poll words [] why f tt h
no_word_fault n words what.Join why f h = no_control_fault control.Join words [] why f tt h
no_word_fault n words what.Restart why f h = no_control_fault control.Restart words [] why f tt h

-- a line of the language isn't bad
not_bad : (n : ℕ) (text : List ℕ) (a : What) (why : Why) → IsLine n text a → IsBadLine text why → ⊥
not_bad n text a why f (inl h) = h.0 f.utf8
not_bad n text a why f (inr (inl h)) = not_true_and_false _ h.1 f.spaces
not_bad n text a why f (inr (inr h)) = no_word_fault n (words_of text) a why f.words h.2

-- the verb of what is asked, where no session asks
abbrev verb_asked : What → List ℕ
verb_asked (what.Call c) = session_word c.session
verb_asked (what.Advance ms) = control_word control.Advance
verb_asked what.Tick = control_word control.Tick
verb_asked what.Clean = control_word control.Clean
verb_asked what.Poll = control_word control.Poll
verb_asked what.Join = control_word control.Join
verb_asked what.Restart = control_word control.Restart

abbrev rest_asked : (n : ℕ) (words : List (List ℕ)) (a : What) → Asks n words a → List (List ℕ)
rest_asked n words (what.Call c) f = verb_word (verb_of c.call) ∷ f.2
rest_asked n words (what.Advance ms) f = decimal ms ∷ []
rest_asked n words what.Tick f = []
rest_asked n words what.Clean f = []
rest_asked n words what.Poll f = []
rest_asked n words what.Join f = []
rest_asked n words what.Restart f = []

words_asked : (n : ℕ) (words : List (List ℕ)) (a : What) (f : Asks n words a) → words ≡ verb_asked a ∷ rest_asked n words a f
words_asked n words (what.Call c) f = f.4
words_asked n words (what.Advance ms) f = f.1
words_asked n words what.Tick f = f
words_asked n words what.Clean f = f
words_asked n words what.Poll f = f
words_asked n words what.Join f = f
words_asked n words what.Restart f = f

abbrev letter : List ℕ → ℕ
letter word = slice_index word 0

same_letter : (n : ℕ) (words : List (List ℕ)) (a b : What) → Asks n words a → Asks n words b → letter (verb_asked a) ≡ letter (verb_asked b)
same_letter n words a b f g = ap letter (first_word (verb_asked a) (verb_asked b) (rest_asked n words a f) (rest_asked n words b g) (sym (words_asked n words a f) ∙ words_asked n words b g))

abbrev make : ℕ → ℕ → Call → CallLine
make line session call = record { line = line; session = session; call = call }

same_call_line : (n : ℕ) (words : List (List ℕ)) (c d : CallLine) → Asks n words (what.Call c) → Asks n words (what.Call d) → c ≡ d
same_call_line n words c d f g =
    let e : session_word c.session ∷ verb_word (verb_of c.call) ∷ f.2 ≡ session_word d.session ∷ verb_word (verb_of d.call) ∷ g.2 = sym f.4 ∙ g.4 in
    let e1 = later_words (session_word c.session) (session_word d.session) (verb_word (verb_of c.call) ∷ f.2) (verb_word (verb_of d.call) ∷ g.2) e in
    let session : c.session ≡ d.session = decimal_injective c.session d.session (omega arith) (omega arith) (ap (drop 1) (first_word (session_word c.session) (session_word d.session) (verb_word (verb_of c.call) ∷ f.2) (verb_word (verb_of d.call) ∷ g.2) e)) in
    let verbs : verb_of c.call ≡ verb_of d.call = same_verb (verb_of c.call) (verb_of d.call) (first_word (verb_word (verb_of c.call)) (verb_word (verb_of d.call)) f.2 g.2 e1) in
    let arguments : f.2 ≡ g.2 = later_words (verb_word (verb_of c.call)) (verb_word (verb_of d.call)) f.2 g.2 e1 in
    let calls : c.call ≡ d.call = same_arguments f.2 c.call d.call verbs f.3 (subst (λ ws. AreArguments ws d.call) (sym arguments) g.3) in
    ap (λ x. make x c.session c.call) (f.0 ∙ sym g.0) ∙ ap (λ x. make d.line x c.call) session ∙ ap (make d.line d.session) calls

same_asked : (n : ℕ) (words : List (List ℕ)) (a b : What) → Asks n words a → Asks n words b → letter (verb_asked a) ≡ letter (verb_asked b) → a ≡ b
same_asked n words (what.Call c) (what.Call d) f g e = ap what.Call (same_call_line n words c d f g)
same_asked n words (what.Call c) _ f g e = absurd (omega arith)
same_asked n words (what.Advance m) (what.Advance k) f g e = ap what.Advance (decimal_injective m k (omega arith) (omega arith) (first_word (decimal m) (decimal k) [] [] (later_words (control_word control.Advance) (control_word control.Advance) (decimal m ∷ []) (decimal k ∷ []) (sym f.1 ∙ g.1))))
same_asked n words (what.Advance m) _ f g e = absurd (omega arith)
same_asked n words what.Tick what.Tick f g e = refl
same_asked n words what.Tick _ f g e = absurd (omega arith)
same_asked n words what.Clean what.Clean f g e = refl
same_asked n words what.Clean _ f g e = absurd (omega arith)
same_asked n words what.Poll what.Poll f g e = refl
same_asked n words what.Poll _ f g e = absurd (omega arith)
same_asked n words what.Join what.Join f g e = refl
same_asked n words what.Join _ f g e = absurd (omega arith)
same_asked n words what.Restart what.Restart f g e = refl
same_asked n words what.Restart _ f g e = absurd (omega arith)

-- a line asks for one thing
same_line : (n : ℕ) (text : List ℕ) (a b : What) → IsLine n text a → IsLine n text b → a ≡ b
same_line n text a b f g = same_asked n (words_of text) a b f.words g.words (same_letter n (words_of text) a b f.words g.words)

does_or_refused : (n : ℕ) (text : List ℕ) (a : What) (why : Why) → Does n text a → IsRefused n text why → ⊥
does_or_refused n text a why f (inl h) = not_bad n text a why f.line h
does_or_refused n text a why f (inr (b, g, unbuilt, r)) = not_true_and_false (is_built b) (ap is_built (same_line n text b a g f.line) ∙ f.built) unbuilt

same_refusal : (n : ℕ) (text : List ℕ) (a b : Why) → IsRefused n text a → IsRefused n text b → a ≡ b
same_refusal n text a b (inl h) (inl k) = same_bad_line text a b h k
same_refusal n text a b (inl h) (inr (x, g, u, r)) = absurd (not_bad n text x a g h)
same_refusal n text a b (inr (x, g, u, r)) (inl k) = absurd (not_bad n text x b g k)
same_refusal n text a b (inr (x, g, u, r)) (inr (y, k, v, s)) = r ∙ sym s

same_does : (n : ℕ) (text : List ℕ) (a b : What) → Does n text a → Does n text b → a ≡ b
same_does n text a b f g = same_line n text a b f.line g.line

abbrev make_line : ℕ → What → Line
make_line line what = record { line = line; what = what }

same_entry : (a b : Line) → a.line ≡ b.line → a.what ≡ b.what → a ≡ b
same_entry a b p q = ap (λ x. make_line x a.what) p ∙ ap (make_line b.line) q

-- the lines are those of one script
pub same_script : (texts : List (ℕ × List ℕ)) (a b : List Line) → AreLines texts a → AreLines texts b → a ≡ b
same_script [] [] [] f g = refl
same_script [] [] (y ∷ b) f g = absurd g
same_script [] (x ∷ a) b f g = absurd f
same_script (t ∷ texts) [] b f g = absurd f
same_script (t ∷ texts) (x ∷ a) [] f g = absurd g
same_script (t ∷ texts) (x ∷ a) (y ∷ b) f g =
    ap (λ l. l ∷ a) (same_entry x y (f.0 ∙ sym g.0) (same_does t.0 t.1 x.what y.what f.1 g.1)) ∙ ap (λ l. y ∷ l) (same_script texts a b f.2 g.2)

-- the first refused line is one, and so is its reason
pub same_first : (texts : List (ℕ × List ℕ)) (l m : ℕ) (a b : Why) → IsFirstRefused texts l a → IsFirstRefused texts m b → (l ≡ m) × (a ≡ b)
same_first [] l m a b f g = absurd f
same_first (t ∷ texts) l m a b (inl f) (inl g) = (f.0 ∙ sym g.0, same_refusal t.0 t.1 a b f.1 g.1)
same_first (t ∷ texts) l m a b (inl f) (inr g) = absurd (does_or_refused t.0 t.1 g.0.0 a g.0.1 f.1)
same_first (t ∷ texts) l m a b (inr f) (inl g) = absurd (does_or_refused t.0 t.1 f.0.0 b f.0.1 g.1)
same_first (t ∷ texts) l m a b (inr f) (inr g) = same_first texts l m a b f.1 g.1

-- where the lines are those of a script, none is refused
pub never_both : (texts : List (ℕ × List ℕ)) (script : List Line) (line : ℕ) (why : Why) → AreLines texts script → IsFirstRefused texts line why → ⊥
never_both [] script line why f g = g
never_both (t ∷ texts) [] line why f g = f
never_both (t ∷ texts) (x ∷ script) line why f (inl g) = does_or_refused t.0 t.1 x.what why f.1 g.1
never_both (t ∷ texts) (x ∷ script) line why f (inr g) = never_both texts script line why f.2 g.1
