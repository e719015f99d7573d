-- What is told of classes, as text: lines that begin with the name of the class.
use Rattle.std.specs.Prelude.{◌≡◌, ◌⊎◌, ℕ, zero, suc, ◌-◌, ◌==◌, Bool, true, false, IsTrue, if◌then◌else◌, List, []}
use Rattle.std.specs.Prelude.{◌++◌, length, slice_get, Option, Some, None, option_and_then, codes, decimal}
use Rattle.std.specs.List.{flat_map}
use Rattle.classfile.specs.ClassFile.{ClassFile}
use Rattle.instruction_text.specs.Texts.{place_text}
use Rattle.loading.specs.Families.{Family, file_in}
use Rattle.vm_state.specs.SharedState.{Region}
use Rattle.use_graph.specs.declared.mark.Evidence.{Evidence}
use Rattle.use_graph.specs.declared.mark.Mark.{Mark}
use Rattle.use_graph.specs.declared.mark.Mark.TheVariants as marks
use Rattle.initializer_analysis.specs.declared.verdict.Reason.{Reason}
use Rattle.initializer_analysis.specs.declared.verdict.Reason.TheVariants as reasons
use Rattle.initializer_analysis.specs.declared.verdict.Verdict.{Verdict}
use Rattle.initializer_analysis.specs.declared.verdict.Verdict.TheVariants.{Wave, Refused}
use Rattle.region_shape.specs.Regions.{environment_of}
use Rattle.object_graph.specs.Images.{ImageTables, object_count}
use Rattle.report.specs.Texts.{class_text, reason_text, line_text}
use Rattle.explain.specs.Chains.{IsChain, Leads}
use Rattle.explain.specs.Explanations.{Explains}
use Rattle.explain.specs.Reruns.{IsRerunIn}
use Rattle.explain.specs.declared.explaining.Explanation.{Explanation}
use Rattle.explain.specs.declared.marks.ShownMark.{ShownMark}
use Rattle.explain.specs.declared.marks.ShownMarks.{ShownMarks}
use Rattle.explain.specs.declared.reruns.Rerun.{Rerun}

-- ---- lines

-- the name of a class, and some words
abbrev pub line : Family → ℕ → List ℕ → List ℕ
line family c words = class_text family c ++ (codes " " ++ (words ++ codes "\n"))

abbrev pub place_in : Option ClassFile → Evidence → List ℕ
place_in None at = []
place_in (Some file) at = place_text file at.index at.pc

-- where an instruction stands, and the instruction
abbrev pub evidence_text : Family → Evidence → List ℕ
evidence_text family at = place_in (file_in family at.class) at

-- a reason, how an instruction has to do with it, and that instruction
abbrev pub place_line : Family → ℕ → Reason → List ℕ → Evidence → List ℕ
place_line family c reason how at =
    line family c (reason_text family reason ++ (codes " " ++ (how ++ (codes " " ++ evidence_text family at))))

-- the line that a report has
abbrev pub verdict_line : ImageTables → ℕ → Option Verdict → List ℕ
verdict_line I c None = []
verdict_line I c (Some verdict) = line_text I c verdict

-- ---- reasons that hold by themselves

abbrev pub forced_line : Family → ℕ → Bool → List ℕ
forced_line family c false = []
forced_line family c true = line family c (codes "Forced")

-- the instruction that bears a mark, and the calls that lead there
abbrev pub mark_lines : Family → ℕ → Mark → Option ShownMark → List ℕ
mark_lines family c mark None = []
mark_lines family c mark (Some shown) = place_line family c (reasons.Marked mark) (codes "at") shown.at
    ++ flat_map (λ call. place_line family c (reasons.Marked mark) (codes "in") call) shown.path.items

-- of all marks, in their order
abbrev pub marks_lines : Family → ℕ → ShownMarks → List ℕ
marks_lines family c shown = mark_lines family c marks.Prints shown.prints
    ++ (mark_lines family c marks.Throws shown.throws
    ++ (mark_lines family c marks.Monitors shown.monitors
    ++ (mark_lines family c marks.ForeignWrite shown.foreign_write
    ++ (mark_lines family c marks.ForeignRead shown.foreign_read
    ++ (mark_lines family c marks.Unsupported shown.unsupported
    ++ mark_lines family c marks.Missing shown.missing)))))

-- another class that it uses and that uses it
abbrev pub cycle_line : Family → ℕ → Option ℕ → List ℕ
cycle_line family c None = []
cycle_line family c (Some other) = line family c (codes "Cycle " ++ class_text family other)

abbrev pub reason_lines : Family → ℕ → Explanation → List ℕ
reason_lines family c explanation = forced_line family c explanation.forced
    ++ (marks_lines family c explanation.marks ++ cycle_line family c explanation.cycle)

-- ---- what a run of an initializer shows

-- how many objects a region's initializer made
abbrev pub made_count : Option Region → ℕ
made_count None = 0
made_count (Some region) = region.pool.count

abbrev pub cost_line : ImageTables → ℕ → ℕ → ℕ → List ℕ
cost_line I c cost bytes = line I.program.family c (codes "cost " ++ (decimal cost
    ++ (codes " made " ++ (decimal (made_count (environment_of I.regions c))
    ++ (codes " kept " ++ (decimal (object_count (environment_of I.regions c))
    ++ (codes " bytes " ++ decimal bytes)))))))

-- The cost is that of a run within the budget with the image's other regions at hand; of the bytes nothing is said.
pub record IsCostLine (I : ImageTables) (budget c : ℕ) (text : List ℕ) : Type 0 where
  pub again : Rerun
  pub rerun : IsRerunIn I c budget again
  pub bytes : ℕ
  pub is : text ≡ cost_line I c again.budget bytes

-- a run of the initializer may end for this reason
abbrev pub is_of_run : Reason → Bool
is_of_run reasons.Forced = false
is_of_run (reasons.Marked mark) = false
is_of_run reasons.Cycle = false
is_of_run (reasons.DependsOn e) = false
is_of_run reasons.Raised = true
is_of_run reasons.ForeignObject = true
is_of_run reasons.Budget = true
is_of_run reasons.Faulted = true

-- nothing, or an instruction at which such a run was stopped, of which nothing is said
abbrev pub IsStopText : Family → ℕ → Reason → List ℕ → Type 0
IsStopText family c reason text =
    (text ≡ []) ⊎ ((at : Evidence) × IsTrue (is_of_run reason) × (text ≡ place_line family c reason (codes "at") at))

abbrev pub IsRunText : ImageTables → ℕ → ℕ → Option Verdict → List ℕ → Type 0
IsRunText I budget c None text = text ≡ []
IsRunText I budget c (Some (Wave n)) text = IsCostLine I budget c text
IsRunText I budget c (Some (Refused reason)) text = IsStopText I.program.family c reason text

-- ---- classes for whose sake a class stays

-- the reason of a class that is not accepted
abbrev pub own_text : Family → Option Verdict → List ℕ
own_text family None = []
own_text family (Some (Wave n)) = []
own_text family (Some (Refused reason)) = codes " " ++ reason_text family reason

abbrev pub dependences : Family → List ℕ → List ℕ
dependences family chain = flat_map (λ e. codes " DependsOn " ++ class_text family e) chain

-- the verdict on the last of some classes
abbrev pub last_verdict : List Verdict → List ℕ → Option Verdict
last_verdict verdicts chain = option_and_then (λ e. slice_get verdicts e) (slice_get chain (length chain - 1))

abbrev pub chain_line : Family → List Verdict → ℕ → List ℕ → List ℕ
chain_line family verdicts c chain = class_text family c
    ++ (dependences family chain ++ (own_text family (last_verdict verdicts chain) ++ codes "\n"))

-- the classes of a chain from the first one that is used and not accepted, with the reason of the last
pub record IsChainLine (family : Family) (verdicts : List Verdict) (c first : ℕ) (text : List ℕ) : Type 0 where
  pub chain : List ℕ
  pub is_chain : IsChain verdicts first chain
  pub is : text ≡ chain_line family verdicts c chain

abbrev pub IsChainText : Family → List Verdict → ℕ → Option ℕ → List ℕ → Type 0
IsChainText family verdicts c None text = text ≡ []
IsChainText family verdicts c (Some first) text = IsChainLine family verdicts c first text

abbrev pub end_text : Family → ℕ → ℕ → List ℕ
end_text family first last = if last == first then [] else codes " .. " ++ class_text family last

abbrev pub ends_line : Family → List Verdict → ℕ → ℕ → ℕ → List ℕ
ends_line family verdicts c first last = class_text family c ++ (codes " DependsOn "
    ++ (class_text family first
    ++ (end_text family first last ++ (own_text family (slice_get verdicts last) ++ codes "\n"))))

-- that first class, and one to which classes lead from there that depend each on the next, with its reason
pub record IsEndsLine (family : Family) (verdicts : List Verdict) (c first : ℕ) (text : List ℕ) : Type 0 where
  pub last : ℕ
  pub leads : Leads verdicts first last
  pub is : text ≡ ends_line family verdicts c first last

abbrev pub IsEndsText : Family → List Verdict → ℕ → Option ℕ → List ℕ → Type 0
IsEndsText family verdicts c None text = text ≡ []
IsEndsText family verdicts c (Some first) text = IsEndsLine family verdicts c first text

-- ---- one class

-- All that stands against a class, with the calls that lead to what it is marked for: the line of the report, what a
-- run of its initializer shows, each reason that holds by itself, and a chain from the first class that it uses and
-- that is not accepted.
pub record IsClassText (I : ImageTables) (verdicts : List Verdict) (at_run_time : List Bool) (budget c : ℕ)
    (text : List ℕ) : Type 0 where
  pub explanation : Explanation
  pub explains : Explains I.program verdicts at_run_time true c explanation
  pub run : List ℕ
  pub has_run : IsRunText I budget c explanation.verdict run
  pub chain : List ℕ
  pub has_chain : IsChainText I.program.family verdicts c explanation.first chain
  pub is : text ≡ verdict_line I c explanation.verdict
      ++ (run ++ (reason_lines I.program.family c explanation ++ chain))

-- ---- all classes

-- What stands against a class, told among all: without runs and calls, and with the end of such a chain alone.
pub record IsTextAmongAll (I : ImageTables) (verdicts : List Verdict) (at_run_time : List Bool) (c : ℕ)
    (text : List ℕ) : Type 0 where
  pub explanation : Explanation
  pub explains : Explains I.program verdicts at_run_time false c explanation
  pub ends : List ℕ
  pub has_ends : IsEndsText I.program.family verdicts c explanation.first ends
  pub is : text ≡ verdict_line I c explanation.verdict ++ (reason_lines I.program.family c explanation ++ ends)

-- a text for each number below one, in their order
abbrev pub AreEachBelow : (ℕ → List ℕ → Type 0) → ℕ → List ℕ → Type 0
AreEachBelow Is zero text = text ≡ []
AreEachBelow Is (suc n) text = (before : List ℕ) × (last : List ℕ) × AreEachBelow Is n before × Is n last
    × (text ≡ before ++ last)

abbrev pub blamed_line : Family → ℕ → ℕ → List ℕ
blamed_line family c others = decimal others ++ (codes " depend on " ++ (class_text family c ++ codes "\n"))

-- that others stay at run time for the sake of a class: of which class, and how many, nothing is said
pub record IsBlamedLine (family : Family) (text : List ℕ) : Type 0 where
  pub class : ℕ
  pub others : ℕ
  pub is : text ≡ blamed_line family class others

-- at most so many texts of a kind
abbrev pub AreAtMost : ℕ → (List ℕ → Type 0) → List ℕ → Type 0
AreAtMost zero Is text = text ≡ []
AreAtMost (suc n) Is text = AreAtMost n Is text
    ⊎ ((before : List ℕ) × (last : List ℕ) × AreAtMost n Is before × Is last × (text ≡ before ++ last))
