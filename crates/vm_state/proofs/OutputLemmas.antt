-- Prints in a row of bytes: another one added, one read, and the text of all from one on.
use Rattle.std.proofs.Common.{◌≡◌, ℕ, zero, suc, ◌+◌, ◌-◌, ◌<◌, ◌≤◌, List, [], ◌∷◌, ◌++◌, Some, drop, take, length}
use Rattle.std.proofs.Common.{get_or, slice_get, refl, sym, ap, ◌∙◌, arith}
use Rattle.std.proofs.lemmas.List.{drop-append-le, drop-drop, take-append-le, take-append-drop, take_all}
use Rattle.std.proofs.lemmas.Grind.{common_steps}
use Rattle.std.proofs.Math.Seq.{drop-append_seam, drop-length}
use Rattle.vm_state.specs.Output.{text_of}
use Rattle.vm_state.specs.steps.Output.{between, prints_in, Cover, start_of}

-- ---- places

pub cover_within : (from : ℕ) (ends threads : List ℕ) (to : ℕ) → Cover from ends threads to → from ≤ to
cover_within from [] [] to h = omega (arith, h)
cover_within from [] (t ∷ ts) to h = absurd h
cover_within from (e ∷ es) [] to h = absurd h
cover_within from (e ∷ es) (t ∷ ts) to (h, hs) =
    let later : e ≤ to = cover_within e es ts to hs in omega (arith, h, later)

pub cover_length : (from : ℕ) (ends threads : List ℕ) (to : ℕ) → Cover from ends threads to
    → length threads ≡ length ends
cover_length from [] [] to h = refl
cover_length from [] (t ∷ ts) to h = absurd h
cover_length from (e ∷ es) [] to h = absurd h
cover_length from (e ∷ es) (t ∷ ts) to (h, hs) = ap suc (cover_length e es ts to hs)

pub cover_more : (from : ℕ) (ends threads : List ℕ) (to more thread : ℕ) → Cover from ends threads to → to ≤ more
    → Cover from (ends ++ more ∷ []) (threads ++ thread ∷ []) more
cover_more from [] [] to more thread h le = (omega (arith, h, le), refl)
cover_more from [] (t ∷ ts) to more thread h le = absurd h
cover_more from (e ∷ es) [] to more thread h le = absurd h
cover_more from (e ∷ es) (t ∷ ts) to more thread (h, hs) le = (h, cover_more e es ts to more thread hs le)

-- a print begins where the one before it ends
pub start_after : (from : ℕ) (ends : List ℕ) (number d : ℕ) → number < length ends
    → start_of from ends (suc number) ≡ get_or ends number d
start_after from [] number d h = absurd (omega (arith, h))
start_after from (e ∷ es) zero d h = refl
start_after from (e ∷ es) (suc number) d h = start_after e es number d (omega (arith, h))

-- it ends where it begins or behind, and within the text
pub print_within : (from : ℕ) (ends threads : List ℕ) (to number d : ℕ) → Cover from ends threads to
    → number < length ends → (start_of from ends number ≤ get_or ends number d) × (get_or ends number d ≤ to)
print_within from [] threads to number d h inside = absurd (omega (arith, inside))
print_within from (e ∷ es) [] to number d h inside = absurd h
print_within from (e ∷ es) (t ∷ ts) to zero d (h, hs) inside = (h, cover_within e es ts to hs)
print_within from (e ∷ es) (t ∷ ts) to (suc number) d (h, hs) inside =
    print_within e es ts to number d hs (omega (arith, inside))

pub start_within : (from : ℕ) (ends threads : List ℕ) (to number : ℕ) → Cover from ends threads to
    → start_of from ends number ≤ to
start_within from ends threads to zero h = cover_within from ends threads to h
start_within from [] threads to (suc number) h = cover_within from [] threads to h
start_within from (e ∷ es) [] to (suc number) h = absurd h
start_within from (e ∷ es) (t ∷ ts) to (suc number) (h, hs) = start_within e es ts to number hs

-- ---- prints

pub prints_count : (bytes : List ℕ) (from : ℕ) (ends threads : List ℕ) (to : ℕ) → Cover from ends threads to
    → length (prints_in bytes from ends threads) ≡ length ends
prints_count bytes from [] [] to h = refl
prints_count bytes from [] (t ∷ ts) to h = absurd h
prints_count bytes from (e ∷ es) [] to h = absurd h
prints_count bytes from (e ∷ es) (t ∷ ts) to (h, hs) = ap suc (prints_count bytes e es ts to hs)

pub print_is : (bytes : List ℕ) (from : ℕ) (ends threads : List ℕ) (to number d : ℕ) → Cover from ends threads to
    → number < length ends → slice_get (prints_in bytes from ends threads) number
    ≡ Some (record {
      thread = get_or threads number d;
      text = between bytes (start_of from ends number) (get_or ends number d);
    })
print_is bytes from [] threads to number d h inside = absurd (omega (arith, inside))
print_is bytes from (e ∷ es) [] to number d h inside = absurd h
print_is bytes from (e ∷ es) (t ∷ ts) to zero d (h, hs) inside = refl
print_is bytes from (e ∷ es) (t ∷ ts) to (suc number) d (h, hs) inside =
    print_is bytes e es ts to number d hs (omega (arith, inside))

between_more : (bytes more : List ℕ) (from to : ℕ) → from ≤ to → to ≤ length bytes
    → between (bytes ++ more) from to ≡ between bytes from to
between_more bytes more from to order within =
    ap (take (to - from)) (drop-append-le from bytes more (omega (arith, order, within)))
    ∙ take-append-le (to - from) (drop from bytes) more (grind (arith, common_steps))

-- one more
pub print_added : (bytes text : List ℕ) (from : ℕ) (ends threads : List ℕ) (thread end : ℕ)
    → Cover from ends threads (length bytes) → end ≡ length bytes + length text
    → prints_in (bytes ++ text) from (ends ++ end ∷ []) (threads ++ thread ∷ [])
    ≡ prints_in bytes from ends threads ++ record { thread = thread; text = text } ∷ []
print_added bytes text from [] [] thread end h is =
    let gone : drop from (bytes ++ text) ≡ text = rw h (drop-append_seam bytes text) in
    ap (λ t. record { thread = thread; text = t } ∷ [])
    (ap (take (end - from)) gone ∙ take_all (end - from) text (omega (arith, h, is)))
print_added bytes text from [] (t ∷ ts) thread end h is = absurd h
print_added bytes text from (e ∷ es) [] thread end h is = absurd h
print_added bytes text from (e ∷ es) (t ∷ ts) thread end (h, hs) is =
    let here = between_more bytes text from e h (cover_within e es ts (length bytes) hs) in
    rw (here, print_added bytes text e es ts thread end hs is) refl

-- the text of all
text_covered : (bytes : List ℕ) (from : ℕ) (ends threads : List ℕ) → Cover from ends threads (length bytes)
    → text_of (prints_in bytes from ends threads) ≡ drop from bytes
text_covered bytes from [] [] h = rw h (sym (drop-length bytes))
text_covered bytes from [] (t ∷ ts) h = absurd h
text_covered bytes from (e ∷ es) [] h = absurd h
text_covered bytes from (e ∷ es) (t ∷ ts) (h, hs) =
    let place : from + (e - from) ≡ e = omega (arith, h) in
    let rest : drop e bytes ≡ drop (e - from) (drop from bytes) =
    sym (drop-drop (e - from) from bytes ∙ ap (λ n. drop n bytes) place) in
    rw (text_covered bytes e es ts hs, rest) (take-append-drop (e - from) (drop from bytes))

-- and from one on
pub text_after : (bytes : List ℕ) (from : ℕ) (ends threads : List ℕ) (number : ℕ)
    → Cover from ends threads (length bytes) → number ≤ length ends
    → text_of (drop number (prints_in bytes from ends threads)) ≡ drop (start_of from ends number) bytes
text_after bytes from ends threads zero h inside = text_covered bytes from ends threads h
text_after bytes from [] threads (suc number) h inside = absurd (omega (arith, inside))
text_after bytes from (e ∷ es) [] (suc number) h inside = absurd h
text_after bytes from (e ∷ es) (t ∷ ts) (suc number) (h, hs) inside =
    text_after bytes e es ts number hs (omega (arith, inside))
