-- What built-in methods are called, each text at its number.
use Rattle.std.specs.Prelude.{ℕ, List, [], ◌∷◌, codes}

-- the empty text, then names, then descriptors
unfoldable pub built_in_texts : List (List ℕ)
built_in_texts =
    [] ∷ codes "<init>" ∷ codes "name" ∷ codes "ordinal" ∷ codes "print" ∷ codes "println" ∷ codes "clone" ∷ codes "()V"
    ∷ codes "(Ljava/lang/String;)V" ∷ codes "(Ljava/lang/String;I)V" ∷ codes "()Ljava/lang/String;" ∷ codes "()I"
    ∷ codes "(I)V" ∷ codes "(J)V" ∷ codes "(C)V" ∷ codes "(Z)V" ∷ codes "()Ljava/lang/Object;" ∷ []
