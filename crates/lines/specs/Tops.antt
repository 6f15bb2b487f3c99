-- The chunks of a file as the reading head meets them, and the first readable track.
use Rattle.std.specs.Prelude.{ℕ, ◌+◌, ◌-◌, List, [], ◌∷◌, length, Option, None, Some, Ok, Err}
use Rattle.model.specs.Words.{when◌then◌else◌, ◌<?◌, ◌≤?◌, Checked, refused}
use Rattle.model.specs.Bytes.{◌!◌}
use Rattle.model.specs.TimeBase.{milliseconds}
use Rattle.model.specs.Chunk.{read_chunk}
use Rattle.model.specs.Track.{place_of_d, voice_of}
use Rattle.model.specs.File.{Top, Top.leaf, Top.readable}
use Rattle.model.specs.declared.Voice.{Voice}
use Rattle.model.specs.declared.ReadChunk.{ReadChunk}
use Rattle.model.specs.declared.TopChunk.{TopChunk}
use Rattle.model.specs.declared.TopChunk.TheVariants.{Track, Leaf}
use Rattle.model.specs.declared.FirstTrack.{FirstTrack}
use Rattle.model.specs.Listing.{Listing}
use Rattle.model.specs.Answer.{play_of}
use Rattle.reading.specs.Stages.{placed}
use Rattle.lines.specs.Fields.{play_listed}

-- the chunk of a size at a place, where its voice is known
unfoldable pub voiced_top : List ℕ → ℕ → ℕ → ℕ → Checked (Option Voice) → Option TopChunk
voiced_top s at size next (Ok None) = Some (Leaf next)
voiced_top s at size next (Ok (Some voice)) =
    when size <? 6 then None else
    Some (Track (milliseconds (s ! (at + 8 + place_of_d voice))))
voiced_top s at size next (Err why) = None

unfoldable pub chunk_top : List ℕ → ℕ → Option ReadChunk → Option TopChunk
chunk_top s at (Some read) = voiced_top s at read.size read.next (voice_of s (placed s at read.size))
chunk_top s at None = None

-- what stands at a place of a file's list, which ends before the check code
unfoldable pub top_met : List ℕ → ℕ → Option TopChunk
top_met s at =
    when 65536 <? length s then None else
    when length s <? 10 then None else
    when length s - 2 ≤? at then None else
    chunk_top s at (read_chunk s (length s - 2) at)

-- the first readable track, where the first chunk has the row number k
unfoldable pub first_of : ℕ → List Top → Option FirstTrack
first_of k [] = None
first_of k (leaf chunk ∷ tops) = first_of (k + 1) tops
first_of k (readable chunk track ∷ tops) = Some (record { row = k; milliseconds = milliseconds track.base_d })

-- the listing of the first readable track of a file
unfoldable pub first_listed : List ℕ → Option FirstTrack → Checked Listing
first_listed input (Some read) = play_listed read.milliseconds (play_of input (length input) read.row 4096)
first_listed input None = refused 16 0
