-- Which initializations are on a thread's stack.
use Rattle.std.proofs.Common.{◌≡◌, ℕ, true, false, ◌⊎◌, inl, inr, List, [], ◌∷◌, sym, ◌∙◌, nat_lt, refl}
use Rattle.vm_state.specs.declared.frame.Frame.{Frame}
use Rattle.vm_state.specs.declared.initialization.Level.{Level}
use Rattle.semantics.specs.Steps.{Thread, Going, Ended}
use Rattle.semantics.specs.Images.{Image}
use Rattle.semantics.specs.Erasure.{cut}
use Rattle.semantics.proofs.SettingLemmas.{Setting}

-- the initialization of c is on the stack
abbrev pub On : ℕ → List Level → Type 0
On c [] = ⊥
On c (l ∷ ls) = (c ≡ l.initialization.class) ⊎ On c ls

abbrev pub OnThread : ℕ → Thread → Type 0
OnThread c (Going fs ls) = On c ls
OnThread c (Ended end) = ⊥

abbrev pub NoneAccepted : Image → List Level → Type 0
NoneAccepted I ls = (c : ℕ) → On c ls → I.holds c ≡ false

-- each accepted class on the stack is of a higher wave than n
abbrev pub Higher : Setting → ℕ → List Level → Type 0
Higher S n ls = (c : ℕ) → On c ls → S.I.holds c ≡ true → nat_lt n (S.wave c) ≡ true

pub none_higher : (S : Setting) (n : ℕ) (ls : List Level) → NoneAccepted S.I ls → Higher S n ls
none_higher S n ls none c on a = (let clash : true ≡ false = sym a ∙ none c on in cc)

pub none_with : (I : Image) (l : Level) (ls : List Level) → I.holds l.initialization.class ≡ false → NoneAccepted I ls
    → NoneAccepted I (l ∷ ls)
none_with I l ls n none c (inl e) = rw e n
none_with I l ls n none c (inr on) = none c on

-- a stack without accepted classes is not cut
pub cut_none : (I : Image) (fs : List Frame) (ls : List Level) → NoneAccepted I ls → cut I fs ls ≡ Going fs ls
cut_none I fs [] none = refl
cut_none I fs (l ∷ ls) none = rw (none l.initialization.class (inl refl))
