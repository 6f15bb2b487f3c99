-- What one entry says, as a reader's answer has it: how it adds to the points said before it, and the phrase that it names.
use Rattle.std.specs.Prelude.{ℕ, ◌+◌, true, false, Option, Some, None}
use Rattle.model.specs.Words.{when◌then◌else◌, ◌≡?◌}
use Rattle.model.specs.declared.Points.{Points}
use Rattle.model.specs.declared.PhraseAddresses.{PhraseAddresses}
use Rattle.model.specs.declared.SeekEntry.{SeekEntry}
use Rattle.model.specs.declared.SeekEntry.TheVariants.{Start, Stop, Phrase, Order}

abbrev pub nothing : Points
nothing = record { starts = false; start = 0; stops = false; stop = 0; ordered = false; order = 0; letters = 0 }

unfoldable pub noted : Points → ℕ → SeekEntry → Points
noted points at (Start value) =
    record {
      starts = true;
      start = value;
      stops = points.stops;
      stop = points.stop;
      ordered = points.ordered;
      order = points.order;
      letters = points.letters;
    }
noted points at (Stop value) =
    record {
      starts = points.starts;
      start = points.start;
      stops = true;
      stop = value;
      ordered = points.ordered;
      order = points.order;
      letters = points.letters;
    }
noted points at (Phrase letter from to) = points
noted points at (Order letters) =
    record {
      starts = points.starts;
      start = points.start;
      stops = points.stops;
      stop = points.stop;
      ordered = true;
      order = at + 3;
      letters = letters;
    }

unfoldable pub phrase_named : ℕ → SeekEntry → Option PhraseAddresses
phrase_named wanted (Start value) = None
phrase_named wanted (Stop value) = None
phrase_named wanted (Phrase letter from to) = when letter ≡? wanted then Some (record { start = from; stop = to }) else None
phrase_named wanted (Order letters) = None
