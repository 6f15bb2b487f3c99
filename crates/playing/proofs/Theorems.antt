-- What every accepted play has, whatever the file: its steps never fall from row to row and none is past the end; a stream without points
-- plays every message before the first end mark of its body, each at its onset, and ends at that mark; and two results that satisfy the promise of PLAY are equal.
use Prim.Native.Nat.{ℕ, min}
use mathlib.Core.Path.{◌≡◌, sym, ◌∙◌, ap, ap₂, subst}
use mathlib.Core.Bool.{Bool, true, false, false≢true}
use mathlib.Core.List.{List, [], ◌∷◌}
use Rattle.std.specs.Prelude.{Option, None, Some, Ok}
use lib.ListN.{length}
use Rattle.model.specs.Words.{◌otherwise◌, Placed, Checked}
use Rattle.model.specs.Item.{lasting}
use Rattle.model.specs.Seek.{Entry, start_point, stop_point}
use Rattle.model.specs.Play.{Section, Tune, tune_of}
use Rattle.model.specs.Word.{is_message}
use Rattle.model.specs.Order.{stream_section, order_of, play_order, tune_in}
use Rattle.model.specs.Track.{Track}
use Rattle.model.specs.File.{File, file_of, track_at}
use Rattle.model.specs.Answer.{Performance, play_of, play_answer, steps_table, words_table}
use Rattle.model.specs.declared.Event.{Event}
use Rattle.model.specs.declared.PlayAnswer.{PlayAnswer}
use Rattle.model.proofs.Outcomes.{then_fine, bind_fine}
use Rattle.reading.proofs.Performed.{performed_so}
use Rattle.sections.specs.Spans.{Items, Rising, messages_after}
use Rattle.sections.proofs.WholeStream.{to_mark, stream_messages, stream_end}
use Rattle.sections.proofs.Tunes.{tune_rises}

-- THE TRACK that an accepted play is of, and the order it plays in

pub record PlayMade (buffer : List ℕ) (n row : ℕ) (tune : Tune Event) : Type 0 where
  pub file : File
  pub track : Track
  pub sections : List Section
  pub reads : file_of buffer n ≡ Ok file
  pub names : track_at file row ≡ Some track
  pub orders : play_order track ≡ Some sections
  pub is : tune ≡ tune_in track sections

pub play_made : (buffer : List ℕ) (n row room : ℕ) (tune : Tune Event) → play_of buffer n row room ≡ Ok tune → PlayMade buffer n row tune
unfolding play_of
play_made buffer n row room tune e =
    let a = bind_fine _ _ tune e in
    let b = then_fine _ _ tune a.2 in
    let last : Ok a.0.tune ≡ Ok tune = b.1 in
    let same : a.0.tune ≡ tune = cc in
    let so = performed_so buffer n row a.0 a.1 in
    record {
      file = so.file;
      track = so.track;
      sections = so.sections;
      reads = so.reads;
      names = so.names;
      orders = so.orders;
      is = sym same ∙ ap (λ (p : Performance). p.tune) so.is;
    }

-- STEPS NEVER FALL

pub steps_rise : (buffer : List ℕ) (n row room : ℕ) (tune : Tune Event) → play_of buffer n row room ≡ Ok tune → Rising 0 tune.end tune.messages
steps_rise buffer n row room tune e =
    let m = play_made buffer n row room tune e in
    subst (λ (t : Tune Event). Rising 0 t.end t.messages) (sym m.is) (tune_rises m.track m.sections m.orders)

-- A STREAM WITHOUT POINTS

stream_order : (phrases : Bool) (items : Items) (entries : List (Placed Entry)) (sections : List Section) → phrases ≡ false → start_point entries ≡ None
    → stop_point entries ≡ None → order_of phrases items entries ≡ Some sections → sections ≡ stream_section items 0 None ∷ []
unfolding order_of ◌otherwise◌
stream_order true items entries sections stream start stop e = absurd (false≢true (sym stream))
stream_order false items entries sections stream start stop e =
    let only : stream_section items (start_point entries otherwise 0) (stop_point entries) ∷ [] ≡ sections = cc in
    sym only ∙ ap₂ (λ (from to : Option ℕ). stream_section items (from otherwise 0) to ∷ []) start stop

pub whole_stream : (track : Track) (sections : List Section) → play_order track ≡ Some sections → track.phrases ≡ false
    → start_point track.entries ≡ None → stop_point track.entries ≡ None
    → ((tune_in track sections).messages ≡ messages_after 0 (to_mark track.items)) × ((tune_in track sections).end ≡ lasting (to_mark track.items))
unfolding play_order tune_in
whole_stream track sections orders stream start stop =
    let items = track.items in
    let same =
    ap (tune_of is_message items) (stream_order track.phrases items track.entries sections stream start stop orders) in (
      ap (λ (tune : Tune Event). tune.messages) same ∙ stream_messages items,
      ap (λ (tune : Tune Event). tune.end) same ∙ stream_end items,
    )

-- TWO RESULTS that satisfy the promise are equal

-- what `play` ensures, of its answer and of the tables afterwards
pub record Plays (buffer : List ℕ) (n row : ℕ) (steps words : List ℕ) (answer : Checked PlayAnswer) (steps-after words-after : List ℕ) : Type 0 where
  pub answers : answer ≡ play_answer (play_of buffer n row (min (length steps) (length words)))
  pub leaves_steps : steps-after ≡ steps_table steps (play_of buffer n row (min (length steps) (length words)))
  pub leaves_words : words-after ≡ words_table words (play_of buffer n row (min (length steps) (length words)))

pub one_result : (buffer : List ℕ) (n row : ℕ) (steps words : List ℕ) (answer other : Checked PlayAnswer) (steps-after steps-other words-after words-other : List ℕ)
    → Plays buffer n row steps words answer steps-after words-after → Plays buffer n row steps words other steps-other words-other
    → (answer ≡ other) × (steps-after ≡ steps-other) × (words-after ≡ words-other)
one_result buffer n row steps words answer other steps-after steps-other words-after words-other one two =
    (one.answers ∙ sym two.answers, one.leaves_steps ∙ sym two.leaves_steps, one.leaves_words ∙ sym two.leaves_words)
