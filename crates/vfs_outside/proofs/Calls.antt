-- How one call of a store and then another are one call.
use Rattle.std.proofs.Common.{◌≡◌, ◌≤◌, ◌∙◌, ap, subst, ℕ, ◌++◌, arith, List, Result, Ok, Err}
use Rattle.vfs_names.specs.declared.fingerprint.Fingerprint.{Fingerprint}
use Rattle.vfs_outside.specs.Outside.{Hands, IsCall, IsCause, MayBeMissing, MayFail, Outside, StaysAlone, nothing}
use Rattle.vfs_outside.specs.Store.{Store}
use Rattle.vfs_outside.specs.Told.{Refuses, Told}
use Rattle.vfs_outside.specs.declared.remote.RemoteError.{RemoteError}
use Rattle.vfs_outside.specs.declared.remote.RemoteError.TheVariants.{Missing, Exists, NotEmpty, Failed, NoMemory}
use Rattle.vfs_outside.proofs.Told.{later_rose}

-- a call that may fail may also answer Missing
pub missing_fails : (why : RemoteError) → MayFail why → MayBeMissing why
missing_fails Missing h = absurd h
missing_fails Exists h = absurd h
missing_fails NotEmpty h = absurd h
missing_fails Failed h = tt
missing_fails NoMemory h = tt

cause_later : (old mid new : Outside) → old.faults ≤ mid.faults → old.changes ≤ mid.changes → (why : RemoteError) → IsCause mid new why → IsCause old new why
cause_later old mid new f c Missing h = later_rose old.changes mid.changes new.changes c h
cause_later old mid new f c Exists h = later_rose old.changes mid.changes new.changes c h
cause_later old mid new f c NotEmpty h = later_rose old.changes mid.changes new.changes c h
cause_later old mid new f c Failed h = later_rose old.faults mid.faults new.faults f h
cause_later old mid new f c NoMemory h = tt

hands_none : {T : Type 0} (old mid : Outside) (first : Result T RemoteError) → Hands nothing old mid first → mid.handed ≡ old.handed
hands_none old mid (Ok x) h = h
hands_none old mid (Err why) h = h

hands_later : {U : Type 0} (gives : U → List (Fingerprint × List ℕ)) (old mid new : Outside) (second : Result U RemoteError) → mid.handed ≡ old.handed → Hands gives mid new second → Hands gives old new second
hands_later gives old mid new (Ok x) e h = h ∙ ap (λ l. gives x ++ l) e
hands_later gives old mid new (Err why) e h = h ∙ e

-- a call that hands nothing out, and then another
pub call_later : {T U : Type 0} {may may' : RemoteError → Type 0} {gives : U → List (Fingerprint × List ℕ)} {old mid new : Outside} {first : Result T RemoteError} {second : Result U RemoteError}
    → IsCall may nothing old mid first → IsCall may' gives mid new second → IsCall may' gives old new second
call_later {gives = gives} {old = old} {mid = mid} {new = new} {first = first} {second = second} a b = record {
  counts = record {
    faults = omega (arith, a.counts.faults, b.counts.faults);
    changes = omega (arith, a.counts.changes, b.counts.changes);
    others = omega (arith, a.counts.others, b.counts.others);
    may_come = b.counts.may_come;
    cause = λ why e. cause_later old mid new a.counts.faults a.counts.changes why (b.counts.cause why e);
  };
  handed = hands_later gives old mid new second (hands_none old mid first a.handed) b.handed;
}

-- a call that fails as any may, in another's place
pub call_fails : {T U : Type 0} {may : RemoteError → Type 0} {gives : U → List (Fingerprint × List ℕ)} {old new : Outside} {first : Result T RemoteError} {why : RemoteError}
    → ((w : RemoteError) → MayFail w → may w) → IsCall MayFail nothing old new first → first ≡ Err why → IsCall may gives old new (Err why)
call_fails {may = may} {old = old} {new = new} {first = first} {why = why} widen a is = record {
  counts = record {
    faults = a.counts.faults;
    changes = a.counts.changes;
    others = a.counts.others;
    may_come = λ w e. subst may (let same : why ≡ w = cc e in same) (widen why (a.counts.may_come why is));
    cause = λ w e. subst (IsCause old new) (let same : why ≡ w = cc e in same) (a.counts.cause why is);
  };
  handed = hands_none old new first a.handed;
}

-- what is told of a call holds of it and a call before that changed nothing by itself
pub told_later : {T : Type 0} (does : T → Store → Store → Type 0) (missing : Store → Type 0) (old mid new : Outside) (result : Result T RemoteError)
    → StaysAlone old mid → mid.others ≤ new.others → Told does missing mid new result → Told does missing old new result
told_later does missing old mid new (Ok x) s l t = record {
  met = t.met;
  alone = λ e. t.alone e ∙ s.alone (omega (arith, e, l));
  done = t.done;
}
told_later does missing old mid new (Err why) s l t = record {
  alone = λ e. t.alone e ∙ s.alone (omega (arith, e, l));
  if_missing = t.if_missing;
}

-- a call that failed as any may tells no more
pub told_fails : {T : Type 0} {missing : Store → Type 0} {old new : Outside} {first : Result T RemoteError} {why : RemoteError}
    → IsCall MayFail nothing old new first → StaysAlone old new → first ≡ Err why → Refuses missing old new why
told_fails {why = why} a s is = record {
  alone = s.alone;
  if_missing = λ e. absurd (subst MayFail e (a.counts.may_come why is));
}
