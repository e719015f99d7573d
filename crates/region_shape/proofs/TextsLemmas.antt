-- What an initializer leaves has strings of the program alone.
use Rattle.std.proofs.Common.{ℕ, List, Option, Some, None, ◌≡◌, refl, sym, subst, true, arith}
use Rattle.std.specs.List.{AllByRecursion}
use Rattle.vm_state.specs.declared.value.Name.{Name}
use Rattle.vm_state.specs.declared.value.Maker.{Maker}
use Rattle.vm_state.specs.declared.value.Maker.TheVariants.{Class, Thread}
use Rattle.vm_state.specs.declared.frame.Frame.{Frame}
use Rattle.vm_state.specs.SharedState.{Region}
use Rattle.vm_state.specs.Values.{value_by}
use Rattle.semantics.specs.Alone.{RunsAlone, Over, Step, body}
use Rattle.semantics.specs.Lawful.{HoldsOfFrame}
use Rattle.semantics.specs.Quiet.{Environment}
use Rattle.semantics.specs.Settling.{Settles}
use Rattle.semantics.proofs.BigStepsLemmas.{steps_agree_lem}
use Rattle.semantics.proofs.FrameMovesLemmas.{moved_has}
use Rattle.semantics.proofs.KeptLemmas.{IsKept}
use Rattle.program.specs.Programs.{IsProgram}
use Rattle.program.specs.Tables.{Tables}
use Rattle.machine.specs.Linked.{program_of, initializer_frame}
use Rattle.machine.specs.Table.{row}
use Rattle.machine.proofs.CallLawLemmas.{blank_has}
use Rattle.machine.proofs.LawsLemmas.{linked_tables_are_sound_lem}
use Rattle.machine.proofs.LinkedLemmas.{initializer_frame_is}
use Rattle.machine.proofs.TableLawLemmas.{row_suits}
use Rattle.region_shape.specs.Texts.{HasText, HasTexts, HaveTexts}
use Rattle.region_shape.specs.Laws.{SettledHaveTexts}
use Rattle.region_shape.proofs.ConstantTextsLemmas.{constants_have, statics_begin}
use Rattle.region_shape.proofs.QuietValuesLemmas.{keeps_values}

-- of names nothing is asked
abbrev IsAny : Name → Type 0
IsAny x = Unit {0}

texts_kept : (P : Tables) → IsKept IsAny (HasText P)
texts_kept P = record {
  int = λ n. tt;
  long = λ n. tt;
  null = tt;
  out = tt;
  reference = λ x h. by_maker x.maker x.number;
  name = λ v h x is. tt;
}
  where
    by_maker : (m : Maker) (n : ℕ) → HasText P (value_by m n)
    by_maker (Class c) n = tt
    by_maker (Thread t) n = tt

module _ (P : Tables) (is : IsProgram P) (env : Environment) (texts : HaveTexts P env) (c : ℕ) where
  abbrev HaveFrames : List Frame → Type 0
  HaveFrames fs = AllByRecursion (HoldsOfFrame (HasText P)) fs

  run_texts : {fs : List Frame} {own last : Region} {n : ℕ} → RunsAlone (program_of P) env c fs own n last
      → HasTexts P own → HaveFrames fs → HasTexts P last
  run_texts Over has frames = has
  run_texts (Step {f = f} {fs = fs} {gs = gs} {own = own} {m = m} q moves rest) has frames =
      let fits =
      row_suits (linked_tables_are_sound_lem P is) (texts_kept P) (constants_have P is) (λ d. true) f frames.0
      (λ d e. refl) in
      let next =
      keeps_values (program_of P) env c IsAny (HasText P) (λ n. tt) m.region.pool.count
      (λ d r at. (texts d r at).statics) (λ d r at. (texts d r at).slots) (λ k small. tt) (row P f)
      own 0 m fits has.statics has.slots (omega arith) q in
      run_texts rest (record { statics = next.statics; slots = next.slots })
      (moved_has (HasText P) m.move f fs gs next.move frames moves)

  first_frames : (o : Option Frame) → initializer_frame P c ≡ o → HaveFrames (body o)
  first_frames None e = tt
  first_frames (Some f) e =
      let frame = initializer_frame_is P c f e in
      (subst (HoldsOfFrame (HasText P)) (sym frame.is) (tt, blank_has (HasText P) frame.code.max_locals), tt)

  settled_texts : (n : ℕ) (region : Region) → Settles (program_of P) env c n region → HasTexts P region
  settled_texts n region settles =
      run_texts ((steps_agree_lem (program_of P) env c n region).0 settles)
      (record { statics = statics_begin P is c; slots = λ k. tt })
      (first_frames (initializer_frame P c) refl)

pub settled_have_texts_lem : SettledHaveTexts
settled_have_texts_lem P is env texts c n region settles = settled_texts P is env texts c n region settles
