-- What the layers below refuse, and what they settle, as what a build refuses and settles.
use Rattle.std.proofs.Common.{◌≡◌, ◌≢◌, ◌⊎◌, ℕ, inl, inr, List, Option, Result, Ok, Err, IfOk, IfErr, OnOk, refl}
use Rattle.std.proofs.Common.{subst, sym}
use Rattle.program.specs.Tables.{Tables}
use Rattle.wave_scheduler.specs.Settled.{AreSettled}
use Rattle.wave_scheduler.specs.Outcomes.{settled_of, CanWork, IsWaveFault}
use Rattle.wave_scheduler.specs.declared.outcome.WaveFault.{WaveFault}
use Rattle.wave_scheduler.specs.declared.outcome.WaveFault.TheVariants as wave_faults
use Rattle.wave_scheduler.specs.declared.outcome.Settled.{Settled as Answer}
use Rattle.options.specs.Demands.{AreMet, IsUnmet}
use Rattle.options.specs.declared.fault.OptionFault.{OptionFault}
use Rattle.options.specs.declared.fault.OptionFault.TheVariants as option_faults
use Rattle.building.specs.declared.build.Built.{Built}
use Rattle.building.specs.declared.build.BuildFault.{BuildFault}
use Rattle.building.specs.declared.build.BuildFault.TheVariants as faults
use Rattle.building.specs.declared.build.BuildOptions.{BuildOptions}
use Rattle.building.specs.declared.asking.AskedOptions.{AskedOptions}
use Rattle.building.specs.Builds.{text_of, IsSettledAs}
use Rattle.building.specs.Refusals.{IsLeftUnmet, IsOption, OptionsFail, demands, option, patterns, unmet}
use Rattle.building.specs.steps.Asking.{Always, IsAsked}
use Rattle.building.specs.steps.Settling.{SettlesAsked, SettlesBy}

-- ---- refusals

-- memory, or such a fault of the options
abbrev pub IsMemoryOr : (OptionFault → Type 0) → BuildFault → Type 0
IsMemoryOr F r = (r ≡ faults.Memory) ⊎ IsOption F r

pub of_option_by : (F : OptionFault → Type 0) (fault : OptionFault) (r : BuildFault)
    → (fault ≡ option_faults.Memory) ⊎ F fault → (fault ≡ option_faults.Memory → r ≡ faults.Memory)
    → (fault ≢ option_faults.Memory → r ≡ faults.Option fault) → IsMemoryOr F r
of_option_by F option_faults.Memory r fails memory other = inl (memory refl)
of_option_by F fault r (inl e) memory other = inl (memory e)
of_option_by F fault r (inr fails) memory other =
    inr (subst (λ (x : BuildFault). IsOption F x) (sym (other (λ e. cc))) (option fails))

wider_option : {F G : OptionFault → Type 0} {r : BuildFault} → ((f : OptionFault) → F f → G f) → IsOption F r
    → IsOption G r
wider_option there (option fails) = option (there _ fails)

pub wider : {F G : OptionFault → Type 0} (r : BuildFault) → ((f : OptionFault) → F f → G f) → IsMemoryOr F r
    → IsMemoryOr G r
wider r there (inl memory) = inl memory
wider r there (inr wrong) = inr (wider_option there wrong)

-- workers whose number is right are refused for want of memory alone
pub memory_alone : (fault : WaveFault) (workers : ℕ) → CanWork workers → IsWaveFault workers fault
    → fault ≡ wave_faults.Memory
memory_alone wave_faults.Memory workers can is = refl
memory_alone wave_faults.Workers workers can is = absurd (is can)

no_wave_fault : (F : OptionFault → Type 0) (fault : BuildFault) → IsOption F fault
    → fault ≢ faults.Wave wave_faults.Workers
no_wave_fault F fault (option fails) e = cc

pub no_option_is_wave : (F : OptionFault → Type 0) (r : Result Built BuildFault)
    → IfErr r (λ fault. (fault ≡ faults.Memory) ⊎ IsOption F fault) → r ≢ Err (faults.Wave wave_faults.Workers)
no_option_is_wave F (Ok built) wrong e = cc
no_option_is_wave F (Err fault) (inl memory) e = cc
no_option_is_wave F (Err fault) (inr wrong) e = no_wave_fault F fault wrong (cc)

-- ---- what is settled

-- what was settled, and is then checked
pub checked_settles : (P : Tables) (asked : AskedOptions) (budget : ℕ) (s : Answer) (r : Result Answer BuildFault)
    → AreSettled P asked.forced budget (settled_of s) → IfOk r (λ last. last ≡ s)
    → OnOk r (AreMet P asked.demand (settled_of s))
    → IfErr r (λ fault. IsMemoryOr (IsUnmet P asked.demand (settled_of s)) fault) → SettlesAsked P asked budget r
checked_settles P asked budget s (Ok last) settled same met fault = record {
  settled = subst (λ (a : Answer). AreSettled P asked.forced budget (settled_of a)) (sym same) settled;
  met = subst (λ (a : Answer). AreMet P asked.demand (settled_of a)) (sym same) met;
  fault = tt;
}
checked_settles P asked budget s (Err fault) settled same met wrong = record {
  settled = tt;
  met = tt;
  fault =
      wider {F = IsUnmet P asked.demand (settled_of s)} {G = IsLeftUnmet P asked.demand asked.forced budget} fault
      (λ f left. record { last = settled_of s; settled = settled; unmet = left }) wrong;
}

-- nothing was settled for want of memory
pub no_memory_settles : (P : Tables) (asked : AskedOptions) (budget : ℕ) (fault : BuildFault) → fault ≡ faults.Memory
    → SettlesAsked P asked budget (Err fault)
no_memory_settles P asked budget fault memory = record { settled = tt; met = tt; fault = inl memory }

module _ (P : Tables) (options : BuildOptions) where
  abbrev run : Option (List ℕ)
  run = text_of options.run_time

  abbrev build : Option (List ℕ)
  build = text_of options.build_time

  settled_asked : (asked : AskedOptions) (s : Answer) → IsAsked P run build asked
      → SettlesAsked P asked options.budget (Ok s) → IsSettledAs P run build options.budget (settled_of s)
  settled_asked asked s is of = record {
    run_list = is.run_list;
    build_list = is.build_list;
    patterns = record {
      known = is.by.known;
      forced = asked.forced;
      are = is.by.are;
      settled = of.settled;
      demands = record {
        known = is.by.of.known;
        demand = asked.demand;
        are = is.by.of.demanded;
        apart = is.by.of.apart;
        met = of.met;
      };
    };
  }

  left_unmet : (asked : AskedOptions) (fault : OptionFault) → IsAsked P run build asked
      → IsLeftUnmet P asked.demand asked.forced options.budget fault → OptionsFail P run build options.budget fault
  left_unmet asked fault is left =
      patterns is.run_list is.build_list
      (demands asked.forced is.by.known is.by.are
      (unmet asked.demand is.by.of.known is.by.of.demanded is.by.of.apart left))

  -- what was asked by the options
  pub asked_settles : (asked : AskedOptions) (r : Result Answer BuildFault) → IsAsked P run build asked
      → SettlesAsked P asked options.budget r → SettlesBy P options r
  asked_settles asked (Ok s) is of = record { settled = settled_asked asked s is of; fault = tt }
  asked_settles asked (Err fault) is of = record {
    settled = tt;
    fault =
        wider {F = IsLeftUnmet P asked.demand asked.forced options.budget} {G = OptionsFail P run build options.budget}
        fault (λ f left. left_unmet asked f is left) of.fault;
  }

  -- it is not known what is asked
  pub not_asked_settles : (fault : BuildFault) → IsMemoryOr (Always (OptionsFail P run build)) fault
      → SettlesBy P options (Err fault)
  not_asked_settles fault wrong = record {
    settled = tt;
    fault =
        wider {F = Always (OptionsFail P run build)} {G = OptionsFail P run build options.budget} fault
        (λ f always. always options.budget) wrong;
  }
