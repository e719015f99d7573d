-- A family has one program.
use Rattle.std.proofs.Common.{◌≡◌, ℕ, ◌<◌, List, [], length, map, sym, ap, ◌∙◌, subst, arith}
use Rattle.std.proofs.lemmas.List.{ext_get_or}
use Rattle.loading.specs.declared.given.GivenClass.{GivenClass}
use Rattle.loading.specs.Families.{Family, IsFamily}
use Rattle.loading.proofs.FilesMovedLemmas.{are_moved, fails_moved, family_moved, links_moved}
use Rattle.hierarchy.proofs.UniquenessLemmas.{same_order}
use Rattle.program.specs.declared.class.Class.{Class}
use Rattle.program.specs.declared.runtime_constant.RuntimeConstant.{RuntimeConstant}
use Rattle.program.specs.Fields.{statics_of}
use Rattle.program.specs.Programs.{AreClasses, IsLinkedClass, IsImplementation, IsProgram, static_field}
use Rattle.program.specs.Strings.{all_strings, AreFirsts}
use Rattle.program.specs.Tables.{Tables}
use Rattle.program.specs.Laws.{OneClass, OneProgram, OneProgramOfFiles, OneProgramOfStrings}
use Rattle.program.specs.Laws.{StillFail, StillFamily, StillLink}
use Rattle.program.proofs.OneFamilyLemmas.{one_family}
use Rattle.program.proofs.SameListsLemmas.{same_partners}
use Rattle.program.proofs.OneImplementationLemmas.{one_implementation}
use Rattle.program.proofs.OneRuntimePoolLemmas.{one_runtime_pool}
use Rattle.program.proofs.OneListOfSignaturesLemmas.{one_list_of_signatures}
use Rattle.program.proofs.OneListOfStringsLemmas.{one_list_of_strings}

pub one_class : OneClass
one_class family strings f a b fits apart h g =
    let pool = one_runtime_pool family strings f a.runtime_pool b.runtime_pool fits apart h.runtime_pool
    g.runtime_pool in
    let statics = h.statics
    ∙ ap (λ (pool : List RuntimeConstant). map (static_field f pool) (statics_of f)) pool ∙ sym g.statics in
    let signatures = one_list_of_signatures f a.signatures b.signatures h.signatures g.signatures in
    let methods = same_partners (IsImplementation family f) (λ m x y. one_implementation family f m x y fits)
    f.methods a.methods b.methods h.methods g.methods in
    let initializer = h.initializer ∙ sym g.initializer in
    let main = h.main ∙ sym g.main in
    λ i. record {
      statics = statics i;
      signatures = signatures i;
      methods = methods i;
      initializer = initializer i;
      main = main i;
      runtime_pool = pool i;
    }

-- the tables of one family and of the same strings
same_tables : (P : Tables) (orders : List (List ℕ)) (classes : List Class) (strings : List (List ℕ))
    → IsFamily P.family → length P.orders ≡ length P.family → length orders ≡ length P.family → IsProgram P
    → IsProgram (record { family = P.family; orders = orders; classes = classes; strings = strings })
    → P.strings ≡ strings → P ≡ record { family = P.family; orders = orders; classes = classes; strings = strings }
same_tables P orders classes strings fits count also p q texts =
    let rows : P.orders ≡ orders = ext_get_or [] P.orders orders (count ∙ sym also) (λ c within.
    let inside : c < length P.family = omega arith in same_order (p.orders c inside) (q.orders c inside)) in
    let made : AreClasses P.family P.strings classes =
    subst (λ (ts : List (List ℕ)). AreClasses P.family ts classes) (sym texts) q.classes in
    let all : P.classes ≡ classes =
    same_partners (λ (given : GivenClass) (class : Class). IsLinkedClass P.family P.strings given.file class)
    (λ given x y. one_class P.family P.strings given.file x y fits p.distinct) P.family P.classes classes p.classes
    made in
    λ i. record { family = P.family; orders = rows i; classes = all i; strings = texts i }

pub one_program_of_strings : OneProgramOfStrings
one_program_of_strings P Q fits p q family texts =
    let T : Family → Tables =
    λ F. record { family = F; orders = Q.orders; classes = Q.classes; strings = Q.strings } in
    let other : IsProgram (T P.family) = subst (λ (F : Family). IsProgram (T F)) (sym family) q in
    same_tables P Q.orders Q.classes Q.strings fits p.order_count other.order_count p other texts ∙ ap T family

pub one_program : OneProgram
one_program P Q fits p own q also family =
    let moved : AreFirsts (all_strings P.family) Q.strings =
    subst (λ (F : Family). AreFirsts (all_strings F) Q.strings) (sym family) also in
    one_program_of_strings P Q fits p q family
    (one_list_of_strings (all_strings P.family) P.strings Q.strings own moved)

pub one_program_of_files : OneProgramOfFiles
one_program_of_files files moved P Q links same f p own g q also =
    one_program P Q f.fits p own q also (one_family files moved P.family Q.family links same f g)

pub still_link : StillLink
still_link files moved same links = links_moved files moved (are_moved files moved same) links

pub still_fail : StillFail
still_fail files moved fault same fails = fails_moved files moved (are_moved files moved same) fault fails

pub still_family : StillFamily
still_family files moved family same is = family_moved files moved family (are_moved files moved same) is
