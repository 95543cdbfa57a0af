-- The words that are written for a context are that context.
use Rattle.std.proofs.Common.{◌≡◌, ◌<◌, ◌+◌, ◌*◌, ◌^◌, ℕ, Bool, true, false, Ok, refl, sym, ap, subst, ◌==◌, arith}
use Rattle.iom_registers.specs.Bits.{bits, bit}
use Rattle.iom_device_dir.specs.declared.context.Context.{Context}
use Rattle.iom_device_dir.specs.declared.stages.FirstStage.{FirstStage}
use Rattle.iom_device_dir.specs.declared.stages.FirstStage.TheVariants as first
use Rattle.iom_device_dir.specs.declared.stages.SecondStage.{SecondStage}
use Rattle.iom_device_dir.specs.declared.stages.SecondStage.TheVariants as second
use Rattle.iom_base.specs.declared.size.Size.TheVariants.{Sv39, Sv48}
use Rattle.iom_device_dir.specs.Words.{context_words}
use Rattle.iom_device_dir.specs.Formats.{IsFirstStage, IsSecondStage, AreContextWords, IsContext}
use Rattle.iom_device_dir.specs.Decoded.{decoded_context}
use Rattle.iom_device_dir.specs.Encoded.{first_stage_word, second_stage_word, encoded_context_words, encoded_context, RootsOfBareStagesAreZero}
use Rattle.iom_device_dir.proofs.Bytes.{AreWide, words_back}
use Rattle.iom_device_dir.proofs.Exact.{found}

-- no field is wider than its bits: what the fields' own types say
abbrev pub StageFits : FirstStage → Type 0
StageFits first.Bare = Unit {0}
StageFits (first.Tables size root) = root.number < 2 ^ 44

abbrev pub ContextFits : Context → Type 0
ContextFits context = (context.pscid.number < 2 ^ 20) × (context.gscid < 2 ^ 16) × StageFits context.first_stage

tc_wide : (b : Bool) → 1 + bit 1 b < 18446744073709551616
tc_wide true = omega arith
tc_wide false = omega arith

tc_valid : (b : Bool) → bits 0 0 (1 + bit 1 b) ≡ 1
tc_valid true = refl
tc_valid false = refl

tc_ats : (b : Bool) → b ≡ (bits 1 1 (1 + bit 1 b) == 1)
tc_ats true = refl
tc_ats false = refl

tc_clear : (b : Bool) → bits 63 2 (1 + bit 1 b) ≡ 0
tc_clear true = refl
tc_clear false = refl

second_is : (stage : SecondStage) (gscid : ℕ) → gscid < 2 ^ 16 → IsSecondStage (bits 63 60 (second_stage_word stage + gscid * 2 ^ 44)) (bits 43 0 (second_stage_word stage + gscid * 2 ^ 44)) stage
second_is second.Bare gscid small = omega arith
second_is (second.Tables Sv39 root) gscid small = let fits : root.number < 2 ^ 44 = root.in_range in (omega arith, omega arith)
second_is (second.Tables Sv48 root) gscid small = let fits : root.number < 2 ^ 44 = root.in_range in (omega arith, omega arith)

second_gscid : (stage : SecondStage) (gscid : ℕ) → gscid < 2 ^ 16 → gscid ≡ bits 59 44 (second_stage_word stage + gscid * 2 ^ 44)
second_gscid second.Bare gscid small = omega arith
second_gscid (second.Tables Sv39 root) gscid small = let fits : root.number < 2 ^ 44 = root.in_range in omega arith
second_gscid (second.Tables Sv48 root) gscid small = let fits : root.number < 2 ^ 44 = root.in_range in omega arith

second_unused : (stage : SecondStage) (gscid : ℕ) → gscid < 2 ^ 16 → stage ≡ second.Bare → bits 43 0 (second_stage_word stage + gscid * 2 ^ 44) ≡ 0
second_unused second.Bare gscid small bare = omega arith
second_unused (second.Tables Sv39 root) gscid small bare = cc
second_unused (second.Tables Sv48 root) gscid small bare = cc

second_wide : (stage : SecondStage) (gscid : ℕ) → gscid < 2 ^ 16 → second_stage_word stage + gscid * 2 ^ 44 < 18446744073709551616
second_wide second.Bare gscid small = omega arith
second_wide (second.Tables Sv39 root) gscid small = let fits : root.number < 2 ^ 44 = root.in_range in omega arith
second_wide (second.Tables Sv48 root) gscid small = let fits : root.number < 2 ^ 44 = root.in_range in omega arith

first_is : (stage : FirstStage) → StageFits stage → IsFirstStage (bits 63 60 (first_stage_word stage)) (bits 43 0 (first_stage_word stage)) stage
first_is first.Bare fits = refl
first_is (first.Tables Sv39 root) fits = (omega arith, omega arith)
first_is (first.Tables Sv48 root) fits = (omega arith, omega arith)

first_clear : (stage : FirstStage) → StageFits stage → bits 59 44 (first_stage_word stage) ≡ 0
first_clear first.Bare fits = refl
first_clear (first.Tables Sv39 root) fits = omega arith
first_clear (first.Tables Sv48 root) fits = omega arith

first_wide : (stage : FirstStage) → StageFits stage → first_stage_word stage < 18446744073709551616
first_wide first.Bare fits = omega arith
first_wide (first.Tables Sv39 root) fits = omega arith
first_wide (first.Tables Sv48 root) fits = omega arith

are_wide : (context : Context) → ContextFits context → AreWide (encoded_context_words context)
unfolding encoded_context_words
are_wide context fits =
    let pscid = fits.0 in
    record {
      tc = tc_wide context.en_ats;
      iohgatp = second_wide context.second_stage context.gscid fits.1;
      ta = omega arith;
      fsc = first_wide context.first_stage fits.2;
    }

-- the words mean the context
pub means : (context : Context) → ContextFits context → AreContextWords (encoded_context_words context) context
unfolding encoded_context_words
means context fits =
    let pscid = fits.0 in
    record {
      valid = tc_valid context.en_ats;
      en_ats = tc_ats context.en_ats;
      second_stage = second_is context.second_stage context.gscid fits.1;
      gscid = second_gscid context.second_stage context.gscid fits.1;
      pscid = omega arith;
      first_stage = first_is context.first_stage fits.2;
      clear = record { tc = tc_clear context.en_ats; ta_below = omega arith; ta_above = omega arith; fsc = first_clear context.first_stage fits.2 };
    }

bytes_back : (context : Context) → ContextFits context → context_words (encoded_context context) ≡ encoded_context_words context
bytes_back context fits = words_back (encoded_context_words context) (are_wide context fits)

pub bytes_mean : (context : Context) → ContextFits context → IsContext (encoded_context context) context
bytes_mean context fits = subst (λ w. AreContextWords w context) (sym (bytes_back context fits)) (means context fits)

unused : (context : Context) → ContextFits context → RootsOfBareStagesAreZero context (encoded_context_words context)
unfolding encoded_context_words
unused context fits =
    (λ bare. ap (λ stage. bits 43 0 (first_stage_word stage)) bare, λ bare. second_unused context.second_stage context.gscid fits.1 bare)

pub bytes_unused : (context : Context) → ContextFits context → RootsOfBareStagesAreZero context (context_words (encoded_context context))
bytes_unused context fits = subst (RootsOfBareStagesAreZero context) (sym (bytes_back context fits)) (unused context fits)

-- what is written is decoded to the context
pub words_read_back : (context : Context) → ContextFits context → decoded_context (encoded_context_words context) ≡ Ok context
words_read_back context fits = found (encoded_context_words context) context (means context fits)

pub bytes_read_back : (context : Context) → ContextFits context → decoded_context (context_words (encoded_context context)) ≡ Ok context
bytes_read_back context fits = found (context_words (encoded_context context)) context (bytes_mean context fits)
