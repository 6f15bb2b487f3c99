-- What the operation speaks of beside the definitions of the model: the plain form of a track, from its bodies and from its row.
use Rattle.std.specs.Prelude.{ℕ, Bool, List, length, Option, None, Some, Ok}
use Rattle.model.specs.Words.{when◌then◌else◌, ◌or◌, ◌<?◌, Checked, passed, ◌>>=◌, ◌>>◌, refused}
use Rattle.model.specs.Item.{items_of}
use Rattle.model.specs.Play.{Section, tune_of, retold}
use Rattle.model.specs.Word.{is_message}
use Rattle.model.specs.Order.{order_of}
use Rattle.model.specs.Plain.{plain_form}
use Rattle.model.specs.Content.{content_of, handy_phone}
use Rattle.model.specs.File.{File}
use Rattle.model.specs.Answer.{plain_of}
use Rattle.model.specs.declared.Voice.{Voice}
use Rattle.sections.specs.Spans.{Items}
use Rattle.playing.specs.Performing.{entries_said, row_performed}
use Rattle.flattening.specs.Orders.{fitted}

-- the plain form of the sections of a body
unfoldable pub sections_plain : List ℕ → Items → List Section → List ℕ
sections_plain body items sections =
    plain_form handy_phone (retold (content_of body) (tune_of is_message items sections))

-- 17 where there is no order, then 18, at the track's header
unfoldable pub flattened : ℕ → ℕ → List ℕ → Items → Option (List Section) → Checked (List ℕ)
flattened header room body items None = refused 17 header
flattened header room body items (Some sections) = fitted header room (sections_plain body items sections)

-- the plain form of a track, from its bodies
unfoldable pub bodies_flattened : Voice → Bool → ℕ → ℕ → List ℕ → List ℕ → Checked (List ℕ)
bodies_flattened voice phrases header room body seek =
    flattened header room body (items_of voice body) (order_of phrases (items_of voice body) (entries_said phrases seek))

-- the plain form of the track that a row of a file names
unfoldable pub row_flattened : ℕ → Checked File → ℕ → Checked (List ℕ)
row_flattened room outcome row = do
  performance ← row_performed outcome row
  when (65536 <? length (plain_of performance)) or (room <? length (plain_of performance)) then refused 18 performance.track.header else passed
  Ok (plain_of performance)
