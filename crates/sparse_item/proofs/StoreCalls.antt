-- Why a store refuses a call of an upload.
use Rattle.std.proofs.Common.{◌≡◌, sym, subst}
use Rattle.vfs_names.specs.declared.refusal.Refusal.{Refusal}
use Rattle.vfs_outside.specs.Outside.{IsCause, MayBeMissing, MayFail, Outside}
use Rattle.vfs_outside.specs.declared.remote.RemoteError.{RemoteError}
use Rattle.vfs_outside.specs.declared.remote.RemoteError.TheVariants.{Missing, Exists, NotEmpty, Failed, NoMemory}
use Rattle.sparse_item.specs.Stores.{IsCommitCause, IsStageCause, refusal_at}

pub may_fail : (why : RemoteError) → MayFail why → MayBeMissing why
may_fail Missing h = tt
may_fail Exists h = absurd h
may_fail NotEmpty h = absurd h
may_fail Failed h = tt
may_fail NoMemory h = tt

stage_cause_at : (old new : Outside) (why : RemoteError) → MayFail why → IsCause old new why → IsStageCause old new (refusal_at why)
stage_cause_at old new Missing h c = absurd h
stage_cause_at old new Exists h c = absurd h
stage_cause_at old new NotEmpty h c = absurd h
stage_cause_at old new Failed h c = c
stage_cause_at old new NoMemory h c = tt

commit_cause_at : (old new : Outside) (why : RemoteError) → MayBeMissing why → IsCause old new why → IsCommitCause old new (refusal_at why)
commit_cause_at old new Missing h c = c
commit_cause_at old new Exists h c = absurd h
commit_cause_at old new NotEmpty h c = absurd h
commit_cause_at old new Failed h c = c
commit_cause_at old new NoMemory h c = tt

pub stage_cause : (old new : Outside) (why : RemoteError) (is : Refusal) → MayFail why → IsCause old new why → is ≡ refusal_at why → IsStageCause old new is
stage_cause old new why is h c e = subst (λ (w : Refusal). IsStageCause old new w) (sym e) (stage_cause_at old new why h c)

pub commit_cause : (old new : Outside) (why : RemoteError) (is : Refusal) → MayBeMissing why → IsCause old new why → is ≡ refusal_at why → IsCommitCause old new is
commit_cause old new why is h c e = subst (λ (w : Refusal). IsCommitCause old new w) (sym e) (commit_cause_at old new why h c)
