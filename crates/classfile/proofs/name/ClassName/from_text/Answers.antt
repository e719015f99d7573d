use Rattle.std.proofs.Common.{◌≡◌, ℕ, ◌+◌, ◌<◌, List, [], ◌∷◌, ◌++◌, length, get_or, take, sym, ap, ◌∙◌, arith}
use Rattle.std.specs.List.{flat_map}
use Rattle.std.specs.Str.{chars}
use Rattle.std.specs.Char.Escape.{encode_utf16}
use Rattle.std.proofs.lemmas.List.{append-nil, length_push, take_all, take_more}
use Rattle.std.proofs.lemmas.List.Concat.{flat_map-append}
use Rattle.std.proofs.lemmas.Iterator.{YieldsList-from_chars}
use Rattle.std.proofs.lemmas.Iterator.Consumers.{YieldsList-turn, YieldsList-end}
use Rattle.classfile.proofs.name.ClassName.from_text.Goals as goal

-- one more character
one_more : (f : ℕ → List ℕ) (cs yielded : List ℕ) (c : ℕ) → (length yielded < length cs)
    × (c ≡ get_or cs (length yielded) c)
    → flat_map f (take (length yielded) cs) ++ f c ≡ flat_map f (take (length (yielded ++ c ∷ [])) cs)
one_more f cs yielded c h =
    let front = take (length yielded) cs in
    let count : length (yielded ++ c ∷ []) ≡ length yielded + 1 = length_push yielded c in
    let taken : take (length yielded + 1) cs ≡ front ++ get_or cs (length yielded) c ∷ [] =
    take_more cs (length yielded) c h.0 in
    let same : front ++ get_or cs (length yielded) c ∷ [] ≡ front ++ c ∷ [] =
    ap (λ (z : ℕ). front ++ z ∷ []) (sym h.1) in
    let pieces : flat_map f (front ++ c ∷ []) ≡ flat_map f front ++ f c = flat_map-append f front (c ∷ [])
    ∙ ap (λ (z : List ℕ). flat_map f front ++ z) (append-nil (f c)) in
    sym pieces ∙ ap (λ (z : List ℕ). flat_map f z) (sym same ∙ sym taken ∙ ap (λ (n : ℕ). take n cs) (sym count))

pub loop-character-preserved : goal.loop-character-preserved
loop-character-preserved c =
    let turn = YieldsList-turn (YieldsList-from_chars c.args.text.now c.utf8.text cc) c.loop-character.yielded _
    c.loop-character.yielded_by _ _ c.in-Some.character c.in-Some.is c.next.ensures.steps in
    rw (c.in_ok-extend_from_slice.ensures.items, c.encode_utf16.ensures.value, c.loop-character.invariant)
    (one_more encode_utf16 (chars c.args.text.now) c.loop-character.yielded c.in-Some.character turn)

pub returns : goal.returns
returns c =
    let end' = YieldsList-end (YieldsList-from_chars c.args.text.now c.utf8.text cc) c.loop-character.yielded _
    c.loop-character.yielded_by _ _ c.in-None.is c.next.ensures.steps in
    c.loop-character.invariant
    ∙ ap (λ (z : List ℕ). flat_map encode_utf16 z)
    (take_all (length c.loop-character.yielded) (chars c.args.text.now) (omega (arith, end'.1)))
