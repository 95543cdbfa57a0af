-- A behaviour: one answer to each deed, by what happened before.
use Rattle.std.specs.Prelude.{List}
use Rattle.iom_litmus.specs.declared.place.Deed.{Deed}
use Rattle.iom_litmus.specs.declared.place.Happened.{Happened}
use Rattle.iom_litmus.specs.declared.reply.Reply.{Reply}

pub record Behaviour (S : Type 0) : Type 0 where
  -- what becomes of the system, and what is said
  pub after : List Happened → Deed → S
  pub reply : List Happened → Deed → Reply
