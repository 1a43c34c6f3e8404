-- What each call adds to the histories, and what it is answered.
use Rattle.std.specs.Prelude.{◌≡◌, ◌⊎◌, ◌<◌, ℕ, ◌+◌, ◌-◌, ◌^◌, ◌++◌, Bool, true, false, Option, Some, None, List, [], ◌∷◌, length, map, min, take, reverse, IsSome, IsSomeAnd}
use Rattle.vfs_names.specs.Payload.{payload_len}
use Rattle.vfs_names.specs.declared.calls.Access.TheVariants as access
use Rattle.vfs_names.specs.declared.calls.How.{How}
use Rattle.vfs_names.specs.declared.fingerprint.Fingerprint.{Fingerprint}
use Rattle.vfs_names.specs.declared.payload.Payload.{Payload}
use Rattle.vfs_names.specs.declared.refusal.Found.{Found}
use Rattle.vfs_names.specs.declared.refusal.Refusal.{Refusal}
use Rattle.vfs_names.specs.declared.refusal.Refusal.TheVariants as why
use Rattle.vfs_names.specs.declared.refusal.Verb.TheVariants as verb
use Rattle.vfs_names.specs.declared.who.By.{By}
use Rattle.vfs_outside.specs.declared.listing.Listing.{Listing}
use Rattle.vfs_outside.specs.declared.tree.TreeEntry.{TreeEntry}
use Rattle.vfs_outside.specs.declared.tree.TreeKind.{TreeKind}
use Rattle.vfs_outside.specs.declared.tree.TreeKind.TheVariants as tree
use Rattle.item_core.specs.declared.entry.Entry.{Entry}
use Rattle.item_core.specs.declared.entry.FileKind.{FileKind}
use Rattle.item_core.specs.declared.entry.FileKind.TheVariants as file
use Rattle.item_core.specs.History.{held_by, is_dirty, size_of}
use Rattle.item_core.specs.Content.{Known}
use Rattle.item_core.specs.Answer.{answer_of, bytes}
use Rattle.item_core.specs.Log.{used}
use Rattle.session_script.specs.declared.call.Call.{Call}
use Rattle.session_script.specs.declared.call.Call.TheVariants as call
use Rattle.session_text.specs.declared.reply.Record.{Record}
use Rattle.session_text.specs.declared.reply.Reply.{Reply}
use Rattle.session_text.specs.declared.reply.Reply.TheVariants as reply
use Rattle.shown_rows.specs.declared.Shown.TheVariants.{Dir, Object}
use Rattle.one_session.specs.State.{History, entries_in, item_at}
use Rattle.one_session.specs.Tree.{files_of, free_places, is_held_at, is_listed, item_of, shown}
use Rattle.one_session.specs.declared.handle.Handle.{Handle}

-- an entry of the tree
abbrev pub in_tree : By → TreeKind → TreeEntry
in_tree by kind = record { by = by; kind = kind }

-- an entry of a file, under the tree's lock as well or not, made when so many calls had been made on its slot's file
abbrev pub in_file : By → Bool → ℕ → FileKind → Entry
in_file by under at kind = record { by = record by { tree = under }; at = at; kind = kind }

-- a call is answered so, with no places
pub record IsBare (r : Record) (answer : Reply) : Type 0 where
  pub reply : r.reply ≡ answer
  pub tree : r.tree ≡ None
  pub file : r.file ≡ None

-- a call is refused so, with a place in the tree or without one, and with none in a file
pub record IsRefused (r : Record) (refusal : Refusal) : Type 0 where
  pub reply : r.reply ≡ reply.Refused refusal
  pub file : r.file ≡ None

-- the place in a file is of this file
abbrev pub IsIn : Option Handle → Record → Type 0
IsIn opened r = IsSomeAnd r.file (λ f. item_at opened ≡ Some f.0.0)

-- how an open is answered: done, with a place in the tree and one in the file; or refused
abbrev pub AnswersOpen : Option Handle → Record → Type 0
AnswersOpen opened r =
    ((r.reply ≡ reply.Done) × (opened ≡ None) × IsSome r.tree × IsSome r.file)
    ⊎ ((IsRefused r why.NotFound ⊎ IsRefused r why.IsDir ⊎ IsRefused r why.RemoteFault ⊎ IsRefused r why.TooBig ⊎ IsRefused r why.DiskFault) × (opened ≡ None) × IsSome r.tree)
    ⊎ (IsBare r (reply.Refused why.BadHandle) × IsSome opened)
    ⊎ IsBare r (reply.Refused why.HistoryFull)
    ⊎ (IsRefused r why.NoMemory × (opened ≡ None))

-- a refusal for what lies outside: the object of a file, or the cache disk
abbrev pub IsOfDevice : Refusal → Type 0
IsOfDevice refusal = (refusal ≡ why.RemoteFault) ⊎ (refusal ≡ why.DiskFault)
    ⊎ ((held : Fingerprint) × (found : Found) × (refusal ≡ why.Stale held found))

-- a call is refused for the cache disk, with a place in the file of its handle
abbrev pub IsRefusedInFile : Option Handle → Record → Type 0
IsRefusedInFile opened r = (r.reply ≡ reply.Refused why.DiskFault) × IsIn opened r × (r.tree ≡ None)

-- how a read is answered: bytes, or a refusal for the object or the disk, with a place in the file of its handle; or refused bare
abbrev pub AnswersRead : Option Handle → ℕ → Record → Type 0
AnswersRead opened len r =
    (((found : List ℕ) × (r.reply ≡ reply.Bytes found)) × IsIn opened r × (r.tree ≡ None))
    ⊎ (((refusal : Refusal) × (r.reply ≡ reply.Refused refusal) × IsOfDevice refusal) × IsIn opened r × (r.tree ≡ None))
    ⊎ (IsBare r (reply.Refused why.BadHandle) × (opened ≡ None))
    ⊎ (IsBare r (reply.Refused why.TooBig) × IsSome opened × (131072 < len))
    ⊎ IsBare r (reply.Refused why.HistoryFull)
    ⊎ IsBare r (reply.Refused why.NoMemory)

abbrev pub AnswersWrite : Option Handle → ℕ → Payload → Record → Type 0
AnswersWrite opened pos payload r =
    ((r.reply ≡ reply.Wrote (payload_len payload)) × IsIn opened r × (r.tree ≡ None))
    ⊎ IsRefusedInFile opened r
    ⊎ (IsBare r (reply.Refused why.BadHandle) × (opened ≡ None))
    ⊎ (IsBare r (reply.Refused why.NotWritable) × IsSomeAnd opened (λ h. h.access ≡ access.Read))
    ⊎ (IsBare r (reply.Refused why.TooBig) × IsSome opened × ((131072 < payload_len payload) ⊎ (2 ^ 40 < pos + payload_len payload)))
    ⊎ IsBare r (reply.Refused why.HistoryFull)
    ⊎ IsBare r (reply.Refused why.NoMemory)

abbrev pub AnswersSize : Option Handle → ℕ → Record → Type 0
AnswersSize opened size r =
    ((r.reply ≡ reply.Done) × IsIn opened r × (r.tree ≡ None))
    ⊎ IsRefusedInFile opened r
    ⊎ (IsBare r (reply.Refused why.BadHandle) × (opened ≡ None))
    ⊎ (IsBare r (reply.Refused why.NotWritable) × IsSomeAnd opened (λ h. h.access ≡ access.Read))
    ⊎ (IsBare r (reply.Refused why.TooBig) × IsSome opened × (2 ^ 40 < size))
    ⊎ IsBare r (reply.Refused why.HistoryFull)
    ⊎ IsBare r (reply.Refused why.NoMemory)

abbrev pub AnswersClose : Option Handle → Record → Type 0
AnswersClose opened r =
    ((r.reply ≡ reply.Done) × IsIn opened r × IsSome r.tree)
    ⊎ (IsBare r (reply.Refused why.BadHandle) × (opened ≡ None))
    ⊎ IsBare r (reply.Refused why.NoMemory)

-- how a call is answered, where this is open at each handle
abbrev pub Answers : (ℕ → Option Handle) → Call → Record → Type 0
Answers opened (call.Open h path how) r = AnswersOpen (opened h) r
Answers opened (call.Read h pos len) r = AnswersRead (opened h) len r
Answers opened (call.Write h pos payload) r = AnswersWrite (opened h) pos payload r
Answers opened (call.Size h size) r = AnswersSize (opened h) size r
Answers opened (call.Close h) r = AnswersClose (opened h) r
Answers opened _ r = ⊥

-- the root is listed where it wasn't yet, and not again
abbrev pub ListsOnce : By → List TreeEntry → List TreeEntry → Type 0
ListsOnce by before lists =
    ((is_listed before ≡ true) × (lists ≡ []))
    ⊎ ((is_listed before ≡ false) × ((listing : Listing) × (lists ≡ in_tree by (tree.Listed [] listing) ∷ [])))

-- what a call adds of its own, once the root is listed, and what is so then
pub record AfterLook (by : By) (before added own : List TreeEntry) (so : List TreeEntry → Type 0) : Type 0 where
  pub lists : List TreeEntry
  pub once : ListsOnce by before lists
  pub is : added ≡ lists ++ own
  pub found : so (before ++ lists)

abbrev pub refused_open : By → List ℕ → Refusal → TreeEntry
refused_open by path refusal = in_tree by (tree.Refused verb.Open path refusal)

-- the path's file, or the next one where it has none
abbrev pub IsItemAt : List TreeEntry → List ℕ → ℕ → Type 0
IsItemAt seen path item = (item_of seen path ≡ Some item) ⊎ ((item_of seen path ≡ None) × (item ≡ files_of seen))

-- no held file is at the path, and the root shows an object there
pub record ShowsObject (path : List ℕ) (seen : List TreeEntry) : Type 0 where
  pub free : is_held_at seen path ≡ false
  pub print : Fingerprint
  pub there : shown seen path ≡ Some (Object print)

-- no held file is at the path, and the root shows nothing there
pub record ShowsNothing (path : List ℕ) (seen : List TreeEntry) : Type 0 where
  pub free : is_held_at seen path ≡ false
  pub nothing : shown seen path ≡ None

-- no held file is at the path, and the root shows a directory there
pub record ShowsDir (path : List ℕ) (seen : List TreeEntry) : Type 0 where
  pub free : is_held_at seen path ≡ false
  pub there : shown seen path ≡ Some Dir

-- a file that is held is opened, or that of an object that is shown; where nothing is, one is made if it is to be
abbrev pub OpensPath : How → List ℕ → ℕ → Option Fingerprint → TreeKind → List TreeEntry → Type 0
OpensPath how path item print own seen = IsItemAt seen path item
    × (((is_held_at seen path ≡ true) × (own ≡ tree.Opened path (record { 0 = item }) print))
    ⊎ (ShowsObject path seen × IsSome print × (own ≡ tree.Opened path (record { 0 = item }) print))
    ⊎ (ShowsNothing path seen × (how.create ≡ true) × (own ≡ tree.Created path (record { 0 = item }))))

-- the file held this before the entry at a place
pub record WasHeld (files : List History) (item k : ℕ) (print : Option Fingerprint) : Type 0 where
  pub inside : k < length (entries_in files item)
  pub so : print ≡ held_by (reverse (take k (entries_in files item)))

-- an open that is done
abbrev pub OpensFile : By → List History → List ℕ → How → Record → List TreeEntry → List TreeEntry → Type 0
OpensFile by files path how r before added = IsSomeAnd r.file (λ f. (own : TreeKind) × (print : Option Fingerprint)
    × WasHeld files f.0.0 f.1 print × AfterLook by before added (in_tree by own ∷ []) (OpensPath how path f.0.0 print own))

-- an object or nothing is there, of which an open begins a file
abbrev pub MayBegin : List ℕ → How → List TreeEntry → Type 0
MayBegin path how seen = ShowsObject path seen ⊎ (ShowsNothing path seen × (how.create ≡ true))

-- an open that finds nothing: the root can't be listed, or shows nothing, or an object that it shows is gone
abbrev pub MissesPath : By → List ℕ → How → List TreeEntry → List TreeEntry → Type 0
MissesPath by path how before added =
    ((is_listed before ≡ false) × (added ≡ refused_open by path why.NotFound ∷ []))
    ⊎ ((how.create ≡ false) × AfterLook by before added (refused_open by path why.NotFound ∷ []) (ShowsNothing path))
    ⊎ AfterLook by before added (in_tree by (tree.Gone path) ∷ refused_open by path why.NotFound ∷ []) (ShowsObject path)

-- an open for which the remote failed: the root can't be listed, or an object that it shows can't be opened
abbrev pub FailsAt : By → List ℕ → List TreeEntry → List TreeEntry → Type 0
FailsAt by path before added =
    ((is_listed before ≡ false) × (added ≡ refused_open by path why.RemoteFault ∷ []))
    ⊎ AfterLook by before added (refused_open by path why.RemoteFault ∷ []) (ShowsObject path)

-- what an open adds to the tree, by its reply
abbrev pub OpenAdds : By → List History → List ℕ → How → Record → List TreeEntry → List TreeEntry → Type 0
OpenAdds by files path how r before added =
    ((r.reply ≡ reply.Done) × OpensFile by files path how r before added)
    ⊎ ((r.reply ≡ reply.Refused why.NotFound) × MissesPath by path how before added)
    ⊎ ((r.reply ≡ reply.Refused why.RemoteFault) × FailsAt by path before added)
    ⊎ ((r.reply ≡ reply.Refused why.IsDir) × AfterLook by before added (refused_open by path why.IsDir ∷ []) (ShowsDir path))
    ⊎ ((r.reply ≡ reply.Refused why.TooBig) × AfterLook by before added (refused_open by path why.TooBig ∷ []) (ShowsObject path))
    ⊎ ((r.reply ≡ reply.Refused why.DiskFault) × AfterLook by before added (refused_open by path why.DiskFault ∷ []) (MayBegin path how))
    ⊎ ((r.reply ≡ reply.Refused why.NoMemory) × AfterLook by before added [] (MayBegin path how))

-- the file was dirty before the entry at a place
pub record WasDirty (files : List History) (item k : ℕ) (dirty : Bool) : Type 0 where
  pub inside : k < length (entries_in files item)
  pub so : dirty ≡ is_dirty (reverse (take k (entries_in files item)))

-- what a close adds to the tree: whether the file is still dirty
abbrev pub CloseAdds : By → List History → Record → List TreeEntry → Type 0
CloseAdds by files r added = (r.reply ≡ reply.Done)
    × IsSomeAnd r.file (λ f. (dirty : Bool) × (added ≡ in_tree by (tree.Closed f.0 dirty) ∷ []) × WasDirty files f.0.0 f.1 dirty)

-- what a call adds to the tree
abbrev pub TreeDoes : By → List History → Call → Record → List TreeEntry → List TreeEntry → Type 0
TreeDoes by files (call.Open h path how) r before added = OpenAdds by files path how r before added
TreeDoes by files (call.Close h) r before added = CloseAdds by files r added
TreeDoes by files _ r before added = ⊥

-- how an open begins a file: as it is, anew, with the object that it holds, or with another one
abbrev pub Begins : List FileKind → Type 0
Begins front = (front ≡ []) ⊎ (front ≡ file.Create ∷ [])
    ⊎ ((print : Fingerprint) × (front ≡ file.Bind print ∷ [])) ⊎ ((print : Fingerprint) × (front ≡ file.Adopt print ∷ []))

abbrev pub OpensAs : By → How → List Entry → Type 0
OpensAs by how added = (at : ℕ) × (front : List FileKind) × Begins front
    × (added ≡ map (in_file by true at) (front ++ file.Opened how.access ∷ []))

-- each byte that is read is the latest write's, else that of the object that the file holds, for every map of contents that
-- holds what was handed out
pub record ReadsLatest (holds : Known → Type 0) (before : List Entry) (pos len : ℕ) (found : List ℕ) : Type 0 where
  pub count : length found ≡ min len (size_of (reverse before) - pos)
  pub latest : (known : Known) → holds known → answer_of known (reverse before) (file.Read pos len) ≡ bytes found

-- a call adds one entry to a file, as the entry of what was done or of why it was refused
abbrev pub AddsOne : By → Bool → FileKind → List Entry → Type 0
AddsOne by under kind added = (at : ℕ) × (added ≡ in_file by under at kind ∷ [])

-- what a call adds to the file of its handle, or that it opens
abbrev pub FileDoes : (Known → Type 0) → By → Call → Record → List Entry → List Entry → Type 0
FileDoes holds by (call.Open h path how) r before added = (r.reply ≡ reply.Done) × OpensAs by how added
FileDoes holds by (call.Read h pos len) r before added =
    (((found : List ℕ) × (r.reply ≡ reply.Bytes found) × ReadsLatest holds before pos len found) × AddsOne by false (file.Read pos len) added)
    ⊎ ((refusal : Refusal) × (r.reply ≡ reply.Refused refusal) × IsOfDevice refusal × AddsOne by false (file.Refused verb.Read refusal) added)
FileDoes holds by (call.Write h pos payload) r before added =
    ((r.reply ≡ reply.Wrote (payload_len payload)) × AddsOne by false (file.Write pos payload) added)
    ⊎ ((r.reply ≡ reply.Refused why.DiskFault) × AddsOne by false (file.Refused verb.Write why.DiskFault) added)
FileDoes holds by (call.Size h size) r before added =
    ((r.reply ≡ reply.Done) × AddsOne by false (file.SetSize size) added)
    ⊎ ((r.reply ≡ reply.Refused why.DiskFault) × AddsOne by false (file.Refused verb.Size why.DiskFault) added)
FileDoes holds by (call.Close h) r before added = (r.reply ≡ reply.Done) × AddsOne by true file.Closed added
FileDoes holds by _ r before added = ⊥

-- the places of a file, its oldest entry first, that are free below a limit: open handles and begun uploads keep one each
abbrev pub free_in : ℕ → List Entry → ℕ
free_in limit entries = limit - used (reverse entries)

-- Too few places are free for what a call may add. An open of one name needs 5 of the tree, and 4 of the file that the
-- path has; a read, a write or a set size needs one of its file; a close has its own.
abbrev pub IsFull : ℕ → List TreeEntry → (ℕ → List Entry) → (ℕ → Option Handle) → Call → Type 0
IsFull limit tree file opened (call.Open h path how) =
    (free_places limit tree < 5) ⊎ ((item : ℕ) × (item_of tree path ≡ Some item) × (free_in limit (file item) < 4))
IsFull limit tree file opened (call.Read h pos len) = (item : ℕ) × (item_at (opened h) ≡ Some item) × (free_in limit (file item) < 1)
IsFull limit tree file opened (call.Write h pos payload) = (item : ℕ) × (item_at (opened h) ≡ Some item) × (free_in limit (file item) < 1)
IsFull limit tree file opened (call.Size h size) = (item : ℕ) × (item_at (opened h) ≡ Some item) × (free_in limit (file item) < 1)
IsFull limit tree file opened _ = ⊥
