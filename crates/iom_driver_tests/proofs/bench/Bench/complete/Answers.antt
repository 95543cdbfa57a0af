use Rattle.std.proofs.Common.{refl, arith}
use Rattle.iom_driver_tests.proofs.bench.Bench.complete.Goals as goal

pub invariant_of-self : goal.invariant_of-self
invariant_of-self c =
    let bench = c.self.inside in
    c.stays_ready.ensures bench.driver bench.memory c.store_u32.new.self bench.io.registers bench.io.registers c.self.invariant
    (record {
      size = c.store_u32.ensures.frames;
      bytes = λ f owner own apart. c.store_u32.ensures.other_frames f (λ same. apart (omega (arith, same, c.from-address.ensures, c.frames.ensures)));
    })
    (record { on = refl; base = refl; entries = refl; faults_on = refl; faults_base = refl; faults_head = refl; faults_tail = refl; mode = refl; root = refl })
