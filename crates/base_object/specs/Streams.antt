-- Streams at the places of downloaders, and which stream is a downloader's.
use Rattle.std.specs.Prelude.{◌≡◌, ℕ, zero, suc, Option, Some, None}
use Rattle.vfs_names.specs.declared.fingerprint.Fingerprint.{Fingerprint}
use Rattle.downloaders.specs.declared.Downloader.{Downloader}
use Rattle.downloaders.specs.Crew.{Team, member_at}
use Rattle.base_object.specs.declared.streams.Streams.{Streams}

-- the stream at a place, of which there are four
abbrev pub stream_at : {S : Type 0} → ℕ → Streams S → Option S
stream_at zero streams = streams.first
stream_at (suc zero) streams = streams.second
stream_at (suc (suc zero)) streams = streams.third
stream_at (suc (suc (suc zero))) streams = streams.fourth
stream_at (suc (suc (suc (suc n)))) streams = None

-- the object made the stream, which stands at the downloader's next byte and ends where its request does
pub record IsStream (print source : Fingerprint) (place finish : ℕ) (d : Downloader) : Type 0 where
  pub own : source ≡ print
  pub at : place ≡ d.pos
  pub to : finish ≡ d.end

-- a stream stands at a place just where a downloader has its number, and is that one's
abbrev pub IsStreamOf : {S : Type 0} → (S → Fingerprint) → (S → ℕ) → (S → ℕ) → Fingerprint → Option Downloader → Option S → Type 0
IsStreamOf source place finish print None None = Unit {0}
IsStreamOf source place finish print None (Some s) = ⊥
IsStreamOf source place finish print (Some d) None = ⊥
IsStreamOf source place finish print (Some d) (Some s) = IsStream print (source s) (place s) (finish s) d

abbrev pub HasStreams : {S : Type 0} → (S → Fingerprint) → (S → ℕ) → (S → ℕ) → Fingerprint → Streams S → Team → Type 0
HasStreams source place finish print streams team =
    (run : ℕ) → IsStreamOf source place finish print (member_at run team) (stream_at run streams)
