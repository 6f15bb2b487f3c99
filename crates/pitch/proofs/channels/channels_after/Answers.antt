-- `channels_after` goes by the event as the definition does.
use mathlib.Core.Logic.{inl, inr}
use Rattle.model.specs.Channels.{channels_after}
use Rattle.pitch.proofs.channels.channels_after.Goals as goal

pub returns-in-Control : goal.returns-in-Control
unfolding channels_after
returns-in-Control c = rw (c.in-Control.is, c.with_channel.ensures, c.channel_after-stepped.ensures, c.channel_at.ensures)

pub returns-in-Nop : goal.returns-in-Nop
unfolding channels_after
returns-in-Nop c =
    elim c.in-Nop.is [ inl e ↦ rw e | inr (inl (channel, key, gate, e)) ↦ rw e | inr (inr (inl (channel, number, gate, e))) ↦ rw e | inr (inr (inr (place, size, e))) ↦ rw e ]
