-- Threads that are made one by one.
use Rattle.std.proofs.Common.{◌≡◌, ℕ, zero, suc, ◌+◌, ◌<◌, ◌≤◌, List, [], ◌∷◌, ◌++◌, length, map, take, Some, get_or}
use Rattle.std.proofs.Common.{sym, ap, ◌∙◌, slice_get, subst, arith, length-append}
use Rattle.std.proofs.lemmas.List.{take_more, map-append, length-take-le, take_all}
use Rattle.std.proofs.lemmas.Option.{same_Some}
use Rattle.semantics.specs.Steps.{Thread as DefinedThread, Going}
use Rattle.semantics.specs.Worlds.{threads_from}
use Rattle.program.specs.Tables.{Tables}
use Rattle.machine.specs.Linked.{program_of, start_frame}
use Rattle.init_engine.specs.declared.world.Thread.{Thread}
use Rattle.init_engine.specs.Threads.{thread_of, HasNumber}
use Rattle.init_engine.specs.steps.Starts.{AreStarting}
use Rattle.init_engine.proofs.StartLemmas.{at_start, threads_more}

-- what holds of each element and its place holds with one more at the end
push_keeps : (Q : ℕ → Thread → Type 0) (xs : List Thread) (t : Thread)
    → ((k : ℕ) (x : Thread) → slice_get xs k ≡ Some x → Q k x) → Q (length xs) t
    → (k : ℕ) (x : Thread) → slice_get (xs ++ t ∷ []) k ≡ Some x → Q k x
push_keeps Q [] t all here zero x is = subst (λ z. Q 0 z) (same_Some t x is) here
push_keeps Q [] t all here (suc k) x is = cc
push_keeps Q (y ∷ xs) t all here zero x is = all zero x is
push_keeps Q (y ∷ xs) t all here (suc k) x is =
    push_keeps (λ n z. Q (suc n) z) xs t (λ n z. all (suc n) z) here k x is

more_from : (P : Tables) (cs : List ℕ) (n d : ℕ) → n < length cs
    → threads_from (program_of P) 0 (take (n + 1) cs)
    ≡ threads_from (program_of P) 0 (take n cs) ++ at_start (get_or cs n d) n ∷ []
more_from P cs n d within =
    let fits : n ≤ length cs = omega (arith, within) in
    ap (λ (ds : List ℕ). threads_from (program_of P) 0 ds) (take_more cs n d within)
    ∙ (threads_more P 0 (take n cs) (get_or cs n d)
    ∙ ap (λ k. threads_from (program_of P) 0 (take n cs) ++ at_start (get_or cs n d) k ∷ [])
    (omega (arith, length-take-le n cs fits)))

pub starting_more : (cs : List ℕ) (n d : ℕ) (old new : List Thread) (t : Thread) → n < length cs
    → AreStarting cs n old → thread_of t ≡ Going (start_frame (get_or cs n d) n ∷ []) [] → HasNumber t n
    → new ≡ old ++ t ∷ [] → AreStarting cs (n + 1) new
starting_more cs n d old new t within before is number pushed =
    let here : HasNumber t (length old) = subst (λ k. HasNumber t k) (sym before.counted) number in
    rw pushed
    (record {
      starting = λ P.
          map-append thread_of old (t ∷ [])
          ∙ (ap (λ (ts : List DefinedThread). ts ++ thread_of t ∷ []) (before.starting P)
          ∙ (ap (λ (s : DefinedThread). threads_from (program_of P) 0 (take n cs) ++ s ∷ []) is
          ∙ sym (more_from P cs n d within)));
      numbered = push_keeps (λ k x. HasNumber x k) old t before.numbered here;
      counted = omega (arith, length-append old (t ∷ []), before.counted);
    })

pub starting_all : (cs : List ℕ) (n : ℕ) (threads : List Thread) → AreStarting cs n threads → length cs ≤ n
    → (P : Tables) → map thread_of threads ≡ threads_from (program_of P) 0 cs
starting_all cs n threads all past P =
    all.starting P ∙ ap (λ (ds : List ℕ). threads_from (program_of P) 0 ds) (take_all n cs past)
