-- One text is written after another.
use Rattle.std.proofs.Common.{◌≡◌, ℕ, ◌++◌, List, [], Option, Result, Ok, Err, OnErr, OnOk, append-nil, append_assoc, arith, refl, subst, sym}
use Rattle.vfs_outside.proofs.Told.{appends_nothing, appends_twice, front_after, front_longer, later_rose}
use Rattle.std.specs.Io.KnownBytes.{Appends}
use Rattle.vfs_outside.specs.Causes.{AppendsFront}
use Rattle.vfs_top.specs.Writing.{Writes}
use Rattle.vfs_top.specs.declared.write.Unwritten.{Unwritten}

regroup : (a b c d : List ℕ) → a ++ (b ++ (c ++ d)) ≡ a ++ b ++ c ++ d
regroup a b c d = sym (simp append_assoc)

-- both were written, or the first was and the second wasn't
pub writes_twice : (w0 w1 w2 : Option (List ℕ)) (f0 f1 f2 : ℕ) (a b : List ℕ) (r : Result (Unit {0}) Unwritten)
    → Writes w0 w1 f0 f1 a (Ok tt) → Writes w1 w2 f1 f2 b r → Writes w0 w2 f0 f2 (a ++ b) r
writes_twice w0 w1 w2 f0 f1 f2 a b (Ok y) p q = record {
  all = appends_twice w0 w1 w2 a b p.all q.all;
  front = tt;
  rose = λ e. cc;
  later = omega (arith, p.later, q.later);
}
writes_twice w0 w1 w2 f0 f1 f2 a b (Err e) p q = record {
  all = tt;
  front = front_after w0 w1 w2 a b p.all q.front;
  rose = λ h. later_rose f0 f1 f2 p.later (q.rose h);
  later = omega (arith, p.later, q.later);
}

-- the first wasn't written
pub writes_neither : (w0 w1 : Option (List ℕ)) (f0 f1 : ℕ) (a b : List ℕ) (e : Unwritten)
    → Writes w0 w1 f0 f1 a (Err e) → Writes w0 w1 f0 f1 (a ++ b) (Err e)
writes_neither w0 w1 f0 f1 a b e p = record {
  all = tt;
  front = front_longer w0 w1 a b p.front;
  rose = λ h. p.rose (cc);
  later = p.later;
}

-- an epoch was written after its start
pub epoch_written : (w0 w1 w2 : Option (List ℕ)) (f0 f1 f2 : ℕ) (start shown ending last : List ℕ) (r : Result (Unit {0}) Unwritten)
    → Writes w0 w1 f0 f1 start (Ok tt) → Writes w1 w2 f1 f2 (shown ++ (ending ++ last)) r → Writes w0 w2 f0 f2 (start ++ shown ++ ending ++ last) r
epoch_written w0 w1 w2 f0 f1 f2 start shown ending last r p q =
    subst (λ text. Writes w0 w2 f0 f2 text r) (regroup start shown ending last) (writes_twice w0 w1 w2 f0 f1 f2 start (shown ++ (ending ++ last)) r p q)

-- an epoch's start wasn't written
pub start_unwritten : (w0 w1 : Option (List ℕ)) (f0 f1 : ℕ) (start shown ending last : List ℕ) (e : Unwritten)
    → Writes w0 w1 f0 f1 start (Err e) → Writes w0 w1 f0 f1 (start ++ shown ++ ending ++ last) (Err e)
start_unwritten w0 w1 f0 f1 start shown ending last e p =
    subst (λ text. Writes w0 w1 f0 f1 text (Err e)) (regroup start shown ending last) (writes_neither w0 w1 f0 f1 start (shown ++ (ending ++ last)) e p)

-- nothing was written of a text
pub none_written : (w : Option (List ℕ)) (text : List ℕ) → AppendsFront w w text
none_written w text = ([], text, refl, appends_nothing w)

-- all of a text is a front of it
pub whole_front : (a b : Option (List ℕ)) (text : List ℕ) → Appends a b text → AppendsFront a b text
whole_front a b text p = (text, [], sym (append-nil text), p)

-- what was written of a text is a front of it, whether that was all or not
pub some_written : {E : Type 0} (a b : Option (List ℕ)) (text : List ℕ) (r : Result (Unit {0}) E) → OnOk r (Appends a b text) → OnErr r (AppendsFront a b text) → AppendsFront a b text
some_written a b text (Ok x) p q = whole_front a b text p
some_written a b text (Err e) p q = q
