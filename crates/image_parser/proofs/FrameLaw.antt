-- Bytes frame the parts of an image or have one fault, and never both.
use Rattle.std.proofs.Common.{◌≡◌, ◌≢◌, ℕ, ◌≤◌, ◌-◌, ◌+◌, ◌⊎◌, Bool, true, false, List, ◌++◌, length, take, drop}
use Rattle.std.proofs.Common.{get_or}
use Rattle.std.proofs.Common.{refl, sym, ap, ◌∙◌, arith, inl, inr}
use Rattle.std.specs.Str.{bytes_eq}
use Rattle.std.proofs.lemmas.Bool.{cases_lt}
use Rattle.std.proofs.lemmas.List.{take_at, drop_at, take-append-drop, length-append, length-take, length-drop}
use Rattle.std.proofs.lemmas.Slice.Eq.{bytes_eq-Decides}
use Rattle.sha2.specs.Sha256.{sha256}
use Rattle.sha2.proofs.Facts256.{length-sha256}
use Rattle.classfile.specs.Spelling.{u2, u4}
use Rattle.image_format.specs.declared.version.Version.{Version}
use Rattle.image_format.specs.declared.version.Version.TheVariants as versions
use Rattle.image_format.specs.Texts.{with_digest, version_number}
use Rattle.image_parser.specs.declared.header.HeaderFault.{HeaderFault}
use Rattle.image_parser.specs.declared.header.HeaderFault.TheVariants as faults
use Rattle.image_parser.specs.HeaderFaults.{IsFramed, IsFrame, front_in, digest_in, magic_in, version_in, HeaderFails}
use Rattle.image_parser.specs.HeaderFaults.HeaderFails.{truncated, magic, version, digest}
use Rattle.image_parser.specs.TextOrFault.{TextOrFault}
use Rattle.image_parser.specs.reading.Frames.{IsUnsealed}

abbrev rest_of : Version → List ℕ → List ℕ
rest_of v parts = u2 (version_number v) ++ parts

abbrev front_of : Version → List ℕ → List ℕ
front_of v parts = u4 1246775629 ++ rest_of v parts

two_bytes : (v : Version) → length (u2 (version_number v)) ≡ 2
two_bytes versions.One = refl
two_bytes versions.Two = refl

one_version : (v w : Version) → u2 (version_number v) ≡ u2 (version_number w) → v ≡ w
one_version versions.One versions.One e = refl
one_version versions.One versions.Two e =
    let k : 1 ≡ 2 = ap (λ (z : List ℕ). get_or z 1 0) e in absurd (omega (arith, k))
one_version versions.Two versions.One e =
    let k : 2 ≡ 1 = ap (λ (z : List ℕ). get_or z 1 0) e in absurd (omega (arith, k))
one_version versions.Two versions.Two e = refl

-- ---- the pieces of framed parts

module _ (bytes : List ℕ) (v : Version) (parts : List ℕ) (f : IsFramed bytes v parts) where
  front_length : length bytes - 32 ≡ length (front_of v parts)
  front_length =
      let all : length bytes ≡ length (front_of v parts) + length (sha256 (front_of v parts)) =
      ap length f.framed ∙ length-append (front_of v parts) (sha256 (front_of v parts)) in
      omega (arith, all, length-sha256 (front_of v parts))

  front_is : front_in bytes ≡ front_of v parts
  front_is =
      ap (λ (n : ℕ). take n bytes) front_length
      ∙ ap (λ (z : List ℕ). take (length (front_of v parts)) z) f.framed
      ∙ take_at (front_of v parts) (sha256 (front_of v parts)) (length (front_of v parts)) refl

  digest_is : digest_in bytes ≡ sha256 (front_of v parts)
  digest_is =
      ap (λ (n : ℕ). drop n bytes) front_length
      ∙ ap (λ (z : List ℕ). drop (length (front_of v parts)) z) f.framed
      ∙ drop_at (front_of v parts) (sha256 (front_of v parts)) (length (front_of v parts)) refl

  magic_is : magic_in bytes ≡ u4 1246775629
  magic_is = ap (λ (z : List ℕ). take 4 z) front_is ∙ take_at (u4 1246775629) (rest_of v parts) 4 refl

  after_magic : drop 4 (front_in bytes) ≡ rest_of v parts
  after_magic = ap (λ (z : List ℕ). drop 4 z) front_is ∙ drop_at (u4 1246775629) (rest_of v parts) 4 refl

  version_is : version_in bytes ≡ u2 (version_number v)
  version_is = ap (λ (z : List ℕ). take 2 z) after_magic ∙ take_at (u2 (version_number v)) parts 2 (two_bytes v)

  parts_are : drop 2 (drop 4 (front_in bytes)) ≡ parts
  parts_are = ap (λ (z : List ℕ). drop 2 z) after_magic ∙ drop_at (u2 (version_number v)) parts 2 (two_bytes v)

  sealed : digest_in bytes ≡ sha256 (front_in bytes)
  sealed = digest_is ∙ ap sha256 (sym front_is)

-- ---- never both, and one of each

no_fault : (bytes : List ℕ) (v : Version) (parts : List ℕ) (f : HeaderFault) → IsFramed bytes v parts
    → HeaderFails bytes f → ⊥
no_fault bytes v parts f framed (truncated lt) = omega (arith, lt, framed.size)
no_fault bytes v parts f framed (magic size differs) = differs (magic_is bytes v parts framed)
no_fault bytes v parts f framed (version size same differs) = differs v (version_is bytes v parts framed)
no_fault bytes v parts f framed (digest size same w of differs) = differs (sealed bytes v parts framed)

one_frame : (bytes : List ℕ) (a b : Version × List ℕ) → IsFrame bytes a → IsFrame bytes b → a ≡ b
one_frame bytes a b s t =
    let same : a.0 ≡ b.0 =
    one_version a.0 b.0 (sym (version_is bytes a.0 a.1 s) ∙ version_is bytes b.0 b.1 t) in
    let parts : a.1 ≡ b.1 = sym (parts_are bytes a.0 a.1 s) ∙ parts_are bytes b.0 b.1 t in
    λ i. (same i, parts i)

one_fault : (bytes : List ℕ) (f g : HeaderFault) → HeaderFails bytes f → HeaderFails bytes g → f ≡ g
one_fault bytes f g (truncated lt) (truncated lt2) = refl
one_fault bytes f g (truncated lt) (magic size2 n2) = absurd (omega (arith, lt, size2))
one_fault bytes f g (truncated lt) (version size2 m2 n2) = absurd (omega (arith, lt, size2))
one_fault bytes f g (truncated lt) (digest size2 m2 w v2 n2) = absurd (omega (arith, lt, size2))
one_fault bytes f g (magic size n) (truncated lt2) = absurd (omega (arith, lt2, size))
one_fault bytes f g (magic size n) (magic size2 n2) = refl
one_fault bytes f g (magic size n) (version size2 m2 n2) = absurd (n m2)
one_fault bytes f g (magic size n) (digest size2 m2 w v2 n2) = absurd (n m2)
one_fault bytes f g (version size m n) (truncated lt2) = absurd (omega (arith, lt2, size))
one_fault bytes f g (version size m n) (magic size2 n2) = absurd (n2 m)
one_fault bytes f g (version size m n) (version size2 m2 n2) = refl
one_fault bytes f g (version size m n) (digest size2 m2 w v2 n2) = absurd (n w v2)
one_fault bytes f g (digest size m u v n) (truncated lt2) = absurd (omega (arith, lt2, size))
one_fault bytes f g (digest size m u v n) (magic size2 n2) = absurd (n2 m)
one_fault bytes f g (digest size m u v n) (version size2 m2 n2) = absurd (n2 u v)
one_fault bytes f g (digest size m u v n) (digest size2 m2 w v2 n2) = refl

-- ---- one of both

same_or_not : (t : Bool) (a b : List ℕ) → bytes_eq a b ≡ t → (a ≡ b) ⊎ (a ≢ b)
same_or_not true a b e = inl ((bytes_eq-Decides a b).0 e)
same_or_not false a b e = inr (λ is. let on = (bytes_eq-Decides a b).1 is in absurd cc)

abbrev same : (a b : List ℕ) → (a ≡ b) ⊎ (a ≢ b)
same a b = same_or_not (bytes_eq a b) a b refl

neither : (text : List ℕ) → text ≢ u2 1 → text ≢ u2 2 → (v : Version) → text ≢ u2 (version_number v)
neither text p q versions.One = p
neither text p q versions.Two = q

version_or_not : (text : List ℕ) → ((v : Version) × (text ≡ u2 (version_number v)))
    ⊎ ((v : Version) → text ≢ u2 (version_number v))
version_or_not text = elim (same text (u2 1)) [
  | inl one ↦ inl (versions.One, one)
  | inr p ↦ elim (same text (u2 2)) [ inl two ↦ inl (versions.Two, two) | inr q ↦ inr (neither text p q) ]
]

abbrev OneOf : List ℕ → Type 0
OneOf bytes = ((x : Version × List ℕ) × IsFrame bytes x) ⊎ ((f : HeaderFault) × HeaderFails bytes f)

framed : (bytes : List ℕ) → 42 ≤ length bytes → magic_in bytes ≡ u4 1246775629 → (v : Version)
    → version_in bytes ≡ u2 (version_number v) → digest_in bytes ≡ sha256 (front_in bytes)
    → IsFramed bytes v (drop 2 (drop 4 (front_in bytes)))
framed bytes size m v is d =
    let front = front_in bytes in
    let parts = drop 2 (drop 4 front) in
    let after : drop 4 front ≡ rest_of v parts = sym (take-append-drop 2 (drop 4 front))
    ∙ ap (λ (z : List ℕ). z ++ parts) is in
    let whole : front ≡ front_of v parts = sym (take-append-drop 4 front) ∙ ap (λ (z : List ℕ). z ++ drop 4 front) m
    ∙ ap (λ (z : List ℕ). u4 1246775629 ++ z) after in
    record {
      size = size;
      framed = sym (take-append-drop (length bytes - 32) bytes) ∙ ap (λ (z : List ℕ). front ++ z) d
          ∙ ap with_digest whole;
    }

pub unsealed : (bytes : List ℕ) → 42 ≤ length bytes → magic_in bytes ≡ u4 1246775629 → (v : Version)
    → version_in bytes ≡ u2 (version_number v) → IsUnsealed bytes v (drop 2 (drop 4 (front_in bytes)))
unsealed bytes size m v is =
    let front = front_in bytes in
    record {
      room = omega (
        arith,
        size,
        length-take (length bytes - 32) bytes,
        length-drop 4 front,
        length-drop 2 (drop 4 front),
      );
      sealed = λ d. framed bytes size m v is d;
      broken = λ no. digest size m v is no;
    }

long_or_fault : (bytes : List ℕ) → 42 ≤ length bytes → OneOf bytes
long_or_fault bytes size =
    elim (same (magic_in bytes) (u4 1246775629)) [
      | inr differs ↦ inr (faults.Magic, magic size differs)
      | inl m ↦
          elim (version_or_not (version_in bytes)) [
            | inr differs ↦ inr (faults.Version, version size m differs)
            | inl known ↦
                elim (same (digest_in bytes) (sha256 (front_in bytes))) [
                  | inr differs ↦ inr (faults.Digest, digest size m known.0 known.1 differs)
                  | inl d ↦ inl (
                    (known.0, drop 2 (drop 4 (front_in bytes))),
                    framed bytes size m known.0 known.1 d,
                  )
                ]
          ]
    ]

frame_or_fault : (bytes : List ℕ) → OneOf bytes
frame_or_fault bytes =
    elim (cases_lt (length bytes) 42) [
      | inl lt ↦ inr (faults.Truncated, truncated lt)
      | inr size ↦ long_or_fault bytes size
    ]

pub one_of : (bytes : List ℕ) → TextOrFault (IsFrame bytes) (HeaderFails bytes)
one_of bytes = record {
  some = frame_or_fault bytes;
  not_both = λ x f s fails. no_fault bytes x.0 x.1 f s fails;
  one_text = one_frame bytes;
  one_fault = one_fault bytes;
}
