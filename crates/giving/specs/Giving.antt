-- What the functions of this crate speak of beside the definitions of the model: the track that a row names with its bodies, and what is given of it.
use Rattle.std.specs.Prelude.{ℕ, ◌/◌, ◌≡◌, Bool, List, [], ◌∷◌, length, Ok, Err}
use Rattle.model.specs.Words.{when◌then◌else◌, ◌or◌, ◌<?◌, ◌≡?◌, Placed, Checked, ◌>>=◌, refused}
use Rattle.model.specs.Item.{Item}
use Rattle.model.specs.Seek.{Entry}
use Rattle.model.specs.Word.{packed}
use Rattle.model.specs.Track.{Track}
use Rattle.model.specs.File.{File, track_at}
use Rattle.model.specs.Writing.{mark_word}
use Rattle.model.specs.Answer.{named, letters_of}
use Rattle.model.specs.declared.Event.{Event}
use Rattle.model.specs.declared.SeekEntry.{SeekEntry}
use Rattle.model.specs.declared.SeekEntry.TheVariants.{Start, Stop, Phrase, Order}
use Rattle.playing.specs.Performing.{Open}
use Rattle.model.specs.declared.Bodies.{Bodies}

-- the track that a row of a file names
unfoldable pub row_named : Checked File → ℕ → Checked Track
row_named outcome row = do
  file ← outcome
  named (track_at file row)

-- a track is told by its bodies, a refusal by itself
unfoldable pub Names : List ℕ → Checked Track → Checked Bodies → Type 0
Names s (Ok track) (Ok bodies) = Open s bodies track
Names s (Ok track) (Err told) = ⊥
Names s (Err why) (Ok bodies) = ⊥
Names s (Err why) (Err told) = told ≡ why

-- the word of an item, from that of its message, which is 0 where it has none
unfoldable pub word_given : ℕ → Bool → ℕ
word_given word mark =
    when word ≡? 0 then (when mark then mark_word else packed 15 0 0 0) else
    word

-- items in a table with so much room
unfoldable pub items_fitted : ℕ → List (Placed (Item Event)) → Checked (List (Placed (Item Event)))
items_fitted room items = when room / 2 <? length items then refused 15 0 else Ok items

-- the four numbers of an entry, as a reader has it
unfoldable pub entry_read : SeekEntry → List ℕ
entry_read (Start value) = 0 ∷ 0 ∷ value ∷ 0 ∷ []
entry_read (Stop value) = 1 ∷ 0 ∷ value ∷ 0 ∷ []
entry_read (Phrase letter from to) = 2 ∷ letter ∷ from ∷ to ∷ []
entry_read (Order letters) = 3 ∷ 0 ∷ letters ∷ 0 ∷ []

unfoldable pub letters_read : SeekEntry → ℕ
letters_read (Start value) = 0
letters_read (Stop value) = 0
letters_read (Phrase letter from to) = 0
letters_read (Order letters) = letters

-- entries in a table with so much room, and their letters in another
unfoldable pub entries_fitted : ℕ → ℕ → List (Placed Entry) → Checked (List (Placed Entry))
entries_fitted room letters entries =
    when (room / 4 <? length entries) or (letters <? length (letters_of entries)) then refused 15 0 else
    Ok entries
