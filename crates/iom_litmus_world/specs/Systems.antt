-- A world as a system under test: what may come of a line and of a step, and what is read off it.
use Rattle.std.specs.Prelude.{◌≡◌, false, length, Option, None, Some}
use Rattle.iom_iommu.specs.Foreseen.{fetch_has_effect}
use Rattle.iom_iommu.specs.Timeouts.{can_time_out}
use Rattle.iom_machine.specs.declared.event.Event.{Event}
use Rattle.iom_litmus.specs.declared.reply.Reply.{Reply}
use Rattle.iom_litmus.specs.Readings.{Readings}
use Rattle.iom_litmus.specs.Replies.{no_reply}
use Rattle.iom_litmus.specs.Rules.{Rules}
use Rattle.iom_litmus_looks.specs.Acts.{event_of}
use Rattle.iom_litmus_looks.specs.Looks.{is_in_flight, AreEqualMessages, memory_text}
use Rattle.iom_virtio_blk.specs.declared.disk.Disk.{Ghosts}
use Rattle.iom_litmus_world.specs.Lines.{LeadsBy, RunsText}
use Rattle.iom_litmus_world.specs.Places.{WorldPlace, Tested, AreListed}

-- what hardware does by itself is that event; where it is none nothing comes of it
abbrev pub LeadsByEvent : {D : Type 0} → Ghosts D → Option Event → WorldPlace → Reply → WorldPlace → Type 0
LeadsByEvent d (Some event) old reply new = LeadsBy d event old reply new
LeadsByEvent d None old reply new = (reply ≡ no_reply) × (new ≡ old)

-- `d` is what is known of the disks, of which there is none here
abbrev pub rules : {D : Type 0} → Ghosts D → Rules Tested
rules d = record {
  runs = λ old text reply new. RunsText d old.place text reply new.place × AreListed new;
  acts = λ old step reply new. LeadsByEvent d (event_of step) old.place reply new.place × AreListed new;
}

abbrev pub readings : Readings Tested
readings = record {
  fetches = λ tested. fetch_has_effect tested.place.hardware.memory tested.place.hardware.iommu;
  devices = λ tested. tested.ids;
  is_in_flight = λ tested id. is_in_flight tested.place.hardware id;
  is_in_walk = λ tested id. false;
  messages = λ tested. length tested.place.hardware.messages;
  is_same_message = λ tested place other. AreEqualMessages tested.place.hardware.messages place other;
  times_out = λ tested. can_time_out tested.place.hardware.iommu;
  memory = λ tested address len. memory_text tested.place.hardware.memory address len;
}
