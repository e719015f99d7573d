-- Words that name lists, and the names in these.
use Rattle.std.proofs.Common.{◌≡◌, ◌≢◌, ◌∙◌, ℕ, ◌+◌, ◌==◌, ◌<◌, List, [], ◌∷◌, ◌++◌, Bool, true, false, length}
use Rattle.std.proofs.Common.{get_or, take, sym}
use Rattle.std.proofs.Common.{arith, refl, ap, subst, map, Some, None, if◌then◌else◌}
use Rattle.std.specs.List.{AllZip, flat_map}
use Rattle.std.specs.Borrow.{Bor}
use Rattle.std.proofs.lemmas.List.{append-nil, map_more}
use Rattle.std.proofs.lemmas.List.Concat.{flat_map-append}
use Rattle.std.proofs.lemmas.List.Elements.{All-push}
use Rattle.loading.proofs.ZipLemmas.{pairs_push}
use Rattle.command_line.specs.Requests.{texts}
use Rattle.cli.specs.Files.{Contents}
use Rattle.cli.specs.Lists.{NamesGiven, StandFor, list_of}
use Rattle.cli.specs.Outputs.{IsNoListOf}
use Rattle.cli.specs.declared.lists.Given.{Given}
use Rattle.cli.specs.steps.Lists.{AreGivenAs, IsGivenAs, names_of}

-- ---- what a word names

-- no @
pub no_list : (word : List ℕ) → ((rest : List ℕ) → word ≢ 64 ∷ rest) → list_of word ≡ None
no_list [] none = refl
no_list (c ∷ []) none = refl
no_list (c ∷ d ∷ rest) none =
    let apart : c ≢ 64 = λ same. none (d ∷ rest) (ap (λ (first : ℕ). first ∷ d ∷ rest) same) in
    let other : (c == 64) ≡ false = grind arith in
    ap (λ (b : Bool). if b then Some (d ∷ rest) else None) other

-- ---- words one by one

-- one more word
pub given_more : (holds now : Contents) (words : List (Bor (List ℕ))) (i : ℕ) (d : Bor (List ℕ)) (one : Given)
    (old new : List Given) → i < length words → new ≡ old ++ one ∷ [] → now ≡ holds
    → IsGivenAs now (get_or words i d).now one → AreGivenAs holds (texts (take i words)) old
    → AreGivenAs holds (texts (take (i + 1) words)) new
given_more holds now words i d one old new within pushed same given all =
    let word = (get_or words i d).now in
    let front : texts (take (i + 1) words) ≡ texts (take i words) ++ word ∷ [] =
    map_more (λ (word : Bor (List ℕ)). word.now) words i d within in
    rw (front, pushed)
    (pairs_push (IsGivenAs holds) (texts (take i words)) old word one all
    (subst (λ (h : Contents). IsGivenAs h word one) same given))

-- one more word that may name a list
pub words_more : (output : List ℕ) (words : List (Bor (List ℕ))) (i : ℕ) (d : Bor (List ℕ)) (one : Bool)
    → i < length words → (list_of (get_or words i d).now ≡ Some output → one ≡ true) → one ≡ false
    → IsNoListOf output (texts (take i words)) → IsNoListOf output (texts (take (i + 1) words))
words_more output words i d one within same apart all =
    let word = (get_or words i d).now in
    let front : texts (take (i + 1) words) ≡ texts (take i words) ++ word ∷ [] =
    map_more (λ (word : Bor (List ℕ)). word.now) words i d within in
    rw front
    (All-push (λ (other : List ℕ). list_of other ≢ Some output) (texts (take i words)) word all
    (λ is. let yes = same is in cc))

-- what is made of one word after another
pub made_more : (made : List ℕ → List ℕ) (words : List (Bor (List ℕ))) (i : ℕ) (d : Bor (List ℕ)) (old new : List ℕ)
    → i < length words → old ≡ flat_map made (texts (take i words)) → new ≡ old ++ made (get_or words i d).now
    → new ≡ flat_map made (texts (take (i + 1) words))
made_more made words i d old new within so_far added =
    let word = (get_or words i d).now in
    let front : texts (take (i + 1) words) ≡ texts (take i words) ++ word ∷ [] =
    map_more (λ (word : Bor (List ℕ)). word.now) words i d within in
    let pieces : flat_map made (texts (take i words) ++ word ∷ []) ≡ flat_map made (texts (take i words)) ++ made word =
    flat_map-append made (texts (take i words)) (word ∷ [])
    ∙ ap (λ (z : List ℕ). flat_map made (texts (take i words)) ++ z) (append-nil (made word)) in
    added ∙ ap (λ (z : List ℕ). z ++ made word) so_far ∙ sym pieces ∙ ap (flat_map made) (sym front)

-- ---- together

parts_given : (holds : Contents) (words : List (List ℕ)) (given : List Given) → AreGivenAs holds words given
    → AllZip (λ (word : List ℕ) (part : List (List ℕ)). StandFor holds word (list_of word) part) words
    (map names_of given)
parts_given holds [] [] all = all
parts_given holds [] (one ∷ given) all = absurd all
parts_given holds (word ∷ words) [] all = absurd all
parts_given holds (word ∷ words) (one ∷ given) all = (all.0, parts_given holds words given all.1)

joined_parts : (given : List Given) → flat_map names_of given
    ≡ flat_map (λ (part : List (List ℕ)). part) (map names_of given)
joined_parts [] = refl
joined_parts (one ∷ given) = ap (λ (names : List (List ℕ)). names_of one ++ names) (joined_parts given)

-- the names that words give
pub names_given : (holds : Contents) (words names : List (List ℕ)) (given : List Given) → AreGivenAs holds words given
    → names ≡ flat_map names_of given → NamesGiven holds words names
names_given holds words names given all is = record {
  parts = map names_of given;
  stand = parts_given holds words given all;
  all = is ∙ joined_parts given;
}
