-- `playing::phrases::play_spans` meets its contract.
use Rattle.playing.proofs.OrderPlayed.{spans_steps_room, spans_words_room, spans_played}
use mathlib.Core.Path.{◌∙◌}
use borrow.Author.Rules.{rules}
use Rattle.playing.proofs.phrases.play_spans.Goals as goal

pub returns-then-min-total : goal.returns-then-min-total
returns-then-min-total c = record { value = c.refused.ensures ∙ search (rules, spans_played); steps_after = search (rules, spans_played); words_after = search (rules, spans_played) }

pub write_letters-requires : goal.write_letters-requires
write_letters-requires c =
    let total = c.add_spans-total.ensures in
    let least = c.min.ensures in
    let enough = c.if-min-total.false in record { body_len_bound = search rules; body_value = search rules; letters_len_bound = search rules; all_playable = search rules; all_rise = search rules; letters_bound = search (rules, spans_played); letters_in_bounds = spans_steps_room _ _ _ total _ _ _ least enough; letters_in_bounds_2 = spans_words_room _ _ _ total _ _ _ least enough }

pub returns : goal.returns
returns c = record { value = search (rules, spans_played); steps_after = search (rules, spans_played); words_after = search (rules, spans_played) }
