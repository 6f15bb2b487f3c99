-- Ticket 4: what the four channels have, stepped by each message that is played, in played order.
use Rattle.std.specs.Prelude.{ℕ, List, [], ◌∷◌, get_or, set}
use Rattle.model.specs.Words.{when◌then◌else◌, ◌≡?◌}
use Rattle.model.specs.declared.Channel.{Channel}
use Rattle.model.specs.declared.Event.{Event}
use Rattle.model.specs.declared.Event.TheVariants.{Nop, Note, Wave, Control, Exclusive}

-- bank, octave shift and the bank in force, all 0 at first
abbrev pub at_first : Channel
at_first = record { bank = 0; shift = 0; bank_in_force = 0 }

abbrev pub channels_at_first : List Channel
channels_at_first = at_first ∷ at_first ∷ at_first ∷ at_first ∷ []

unfoldable pub channel_at : List Channel → ℕ → Channel
channel_at channels number = get_or channels number at_first

-- A program message (kind 3) puts the channel's bank into force. A bank (4) alone changes nothing that sounds: it waits for the next program. An
-- octave shift (5) counts at once.
unfoldable pub channel_after : Channel → ℕ → ℕ → Channel
channel_after channel kind value =
    when kind ≡? 3 then record { bank = channel.bank; shift = channel.shift; bank_in_force = channel.bank } else
    when kind ≡? 4 then record { bank = value; shift = channel.shift; bank_in_force = channel.bank_in_force } else
    when kind ≡? 5 then record { bank = channel.bank; shift = value; bank_in_force = channel.bank_in_force } else
    channel

-- the step: a control changes what its own channel has
unfoldable pub channels_after : List Channel → Event → List Channel
channels_after channels Nop = channels
channels_after channels (Note number key gate) = channels
channels_after channels (Wave number wave gate) = channels
channels_after channels (Control kind number value) = set channels number (channel_after (channel_at channels number) kind value)
channels_after channels (Exclusive place size) = channels
