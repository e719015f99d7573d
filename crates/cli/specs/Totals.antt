-- What a build comes to, in words.
use Rattle.std.specs.Prelude.{ℕ, ◌-◌, ◌==◌, List, [], ◌++◌, Bool, true, false, codes, decimal, if◌then◌else◌, length, map}
use Rattle.std.specs.List.{count_by, flat_map, sum}
use Rattle.std.specs.Str.{bytes_eq}
use Rattle.initializer_analysis.specs.Words.{reason_word}
use Rattle.initializer_analysis.specs.declared.verdict.Verdict.{Verdict}
use Rattle.initializer_analysis.specs.declared.verdict.Verdict.TheVariants.{Wave, Refused}
use Rattle.object_graph.specs.Images.{ImageTables}
use Rattle.image_writer.specs.ImageTexts.{region_sizes}
use Rattle.inspection.specs.Texts.{objects_below}
use Rattle.cli.specs.declared.cures.TheConstants.{REASONS}

abbrev pub is_built : Verdict → Bool
is_built (Wave n) = true
is_built (Refused reason) = false

-- whether a class is left to run time for a reason of this word
abbrev pub is_left_by : List ℕ → Verdict → Bool
is_left_by word (Wave n) = false
is_left_by word (Refused reason) = bytes_eq (reason_word reason) word

-- how many classes are
abbrev pub left_by : List Verdict → List ℕ → ℕ
left_by verdicts word = count_by (is_left_by word) verdicts

-- so many classes, after the word of their reason; nothing where there are none
abbrev pub count_text : List ℕ → ℕ → List ℕ
count_text word n = if n == 0 then [] else codes " " ++ (word ++ (codes " " ++ decimal n))

abbrev pub left_text : List Verdict → List ℕ → List ℕ
left_text verdicts word = count_text word (left_by verdicts word)

-- How many classes, objects and bytes of regions, and how many classes are left by each reason.
abbrev pub totals_text : ImageTables → List Verdict → List ℕ
totals_text I verdicts = codes "classes " ++ (decimal (length verdicts)
    ++ (codes " built " ++ (decimal (count_by is_built verdicts)
    ++ (codes " objects " ++ (decimal (objects_below I (length I.program.family))
    ++ (codes " bytes " ++ (decimal (sum (region_sizes I))
    ++ (codes " left " ++ (decimal (length verdicts - count_by is_built verdicts)
    ++ flat_map (left_text verdicts) (map (λ word. word.now) REASONS))))))))))
