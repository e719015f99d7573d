-- What the conclusion of an instruction makes of the frame that it began with and of its callers.
use Rattle.std.specs.Prelude.{◌≡◌, ℕ, List, [], ◌∷◌, Option, Some, None, Ok}
use Rattle.vm_state.specs.declared.frame.Frame.{Frame}
use Rattle.vm_state.specs.declared.frame.Segment.{Segment}
use Rattle.vm_state.specs.Segments.{frames_of}
use Rattle.semantics.specs.Rows.{Move, Ends, Next}
use Rattle.semantics.specs.Moves.{moved}
use Rattle.machine.specs.Accesses.{Untouched, concluded}
use Rattle.machine.specs.declared.kinds.Conclusion.{Conclusion}
use Rattle.machine.specs.declared.kinds.Conclusion.TheVariants as conclusions
use Rattle.machine.specs.declared.moving.Left.{Left}
use Rattle.machine.specs.declared.moving.Left.TheVariants.{Stands, Nothing, NoRoom, Prints, Raises, Halts}

-- It was a move, which leaves these frames, if it can be made.
abbrev pub Moves : Conclusion → Frame → Segment → Option (List Frame) → Type 0
Moves k f old gs = (move : Move) × (concluded k old.innermost ≡ Ends (Next move)) × (moved move f old.callers ≡ gs)

-- this holds of the frame that the instruction began with
abbrev pub Begun : Conclusion → Segment → (Frame → Type 0) → Type 0
Begun k old holds = (f : Frame) → f.activity ≡ old.innermost.activity → Untouched (Ok k) f old.innermost → holds f

-- what is left of the frames
abbrev pub Leaves : Conclusion → Segment → Left → Segment → Type 0
Leaves k old Stands new = Begun k old (λ f. Moves k f old (Some (frames_of new)))
Leaves k old Nothing new = Begun k old (λ f. Moves k f old (Some []) × (frames_of new ≡ f ∷ old.callers))
Leaves k old (NoRoom caller) new =
    Begun k old (λ f. Moves k f old None × (new.innermost ∷ caller ∷ new.callers ≡ f ∷ old.callers))
Leaves k old (Prints text operands) new = (k ≡ conclusions.Prints text operands) × (new ≡ old)
Leaves k old (Raises x class) new = (k ≡ conclusions.Raises x class) × (new ≡ old)
Leaves k old (Halts kind) new = (k ≡ conclusions.Halts kind) × (new ≡ old)

-- a call, which memory may be refused to
abbrev pub IsCall : Conclusion → Type 0
IsCall k = (callee : Frame) × (arguments : ℕ) × (k ≡ conclusions.Calls callee arguments)
