-- What C gets for each answer of an operation: 0 and 0 with the values of an accepted call, or a refusal's number and place with all else 0.
use Rattle.std.specs.Prelude.{ℕ, false, pos, Ok, Err}
use Rattle.model.specs.Words.{Checked}
use Rattle.model.specs.declared.ReadAnswer.{ReadAnswer}
use Rattle.model.specs.declared.PlayAnswer.{PlayAnswer}
use Rattle.model.specs.declared.EntriesAnswer.{EntriesAnswer}
use Rattle.model.specs.declared.Pitch.{Pitch}
use Rattle.smaf_c.specs.declared.read.ReadReply.{ReadReply}
use Rattle.smaf_c.specs.declared.play.PlayReply.{PlayReply}
use Rattle.smaf_c.specs.declared.flatten.FlattenReply.{FlattenReply}
use Rattle.smaf_c.specs.declared.write.WriteReply.{WriteReply}
use Rattle.smaf_c.specs.declared.track_items.ItemsReply.{ItemsReply}
use Rattle.smaf_c.specs.declared.track_entries.EntriesReply.{EntriesReply}
use Rattle.smaf_c.specs.declared.note_pitch.PitchReply.{PitchReply}

unfoldable pub read_reply : Checked ReadAnswer → ReadReply
read_reply (Ok read) = record { refusal = 0; place = 0; count = read.count; code = read.code; matches = read.matches }
read_reply (Err why) = record { refusal = why.number; place = why.place; count = 0; code = 0; matches = false }

unfoldable pub play_reply : Checked PlayAnswer → PlayReply
play_reply (Ok played) = record { refusal = 0; place = 0; count = played.count; end = played.end }
play_reply (Err why) = record { refusal = why.number; place = why.place; count = 0; end = 0 }

unfoldable pub flatten_reply : Checked ℕ → FlattenReply
flatten_reply (Ok length) = record { refusal = 0; place = 0; length = length }
flatten_reply (Err why) = record { refusal = why.number; place = why.place; length = 0 }

unfoldable pub write_reply : Checked ℕ → WriteReply
write_reply (Ok length) = record { refusal = 0; place = 0; length = length }
write_reply (Err why) = record { refusal = why.number; place = why.place; length = 0 }

unfoldable pub items_reply : Checked ℕ → ItemsReply
items_reply (Ok count) = record { refusal = 0; place = 0; count = count }
items_reply (Err why) = record { refusal = why.number; place = why.place; count = 0 }

unfoldable pub entries_reply : Checked EntriesAnswer → EntriesReply
entries_reply (Ok given) = record { refusal = 0; place = 0; count = given.count; letters = given.letters }
entries_reply (Err why) = record { refusal = why.number; place = why.place; count = 0; letters = 0 }

unfoldable pub pitch_reply : Checked Pitch → PitchReply
pitch_reply (Ok pitch) = record { refusal = 0; place = 0; semitones = pitch.above }
pitch_reply (Err why) = record { refusal = why.number; place = why.place; semitones = pos 0 }
