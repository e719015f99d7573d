-- What was printed goes out.
use Rattle.std.proofs.Common.{◌≡◌, ℕ, ◌+◌, ◌≤◌, ◌++◌, List, [], ◌∷◌, Option, Some, None, refl, sym, ap}
use Rattle.std.proofs.Common.{subst, ◌∙◌, arith, take, drop, length, length-append, length-drop}
use Rattle.std.proofs.Common.{append_assoc}
use Rattle.std.proofs.Math.Seq.{take-add, take-append-add, take-length}
use Rattle.std.proofs.lemmas.List.{drop-append-le, take-append-le, take-append-drop}
use Rattle.std.specs.Io.KnownBytes.{Appends}
use Rattle.vm_state.specs.Output.{Print, text_of}
use Rattle.thread_runner.specs.Sendings.{AreOfPrints, IsPlace, SendsOn, sent_of}

-- ---- the text of prints

pub text_join : (xs ys : List Print) → text_of (xs ++ ys) ≡ text_of xs ++ text_of ys
text_join [] ys = refl
text_join (x ∷ xs) ys =
    ap (λ r. x.text ++ r) (text_join xs ys) ∙ sym (append_assoc x.text (text_of xs) (text_of ys))

text_parts : (ps : List Print) (i : ℕ) → text_of ps ≡ text_of (take i ps) ++ text_of (drop i ps)
text_parts ps i =
    ap (λ (all : List Print). text_of all) (sym (take-append-drop i ps)) ∙ text_join (take i ps) (drop i ps)

pub text_lengths : (ps : List Print) (i : ℕ)
    → length (text_of (take i ps)) + length (text_of (drop i ps)) ≡ length (text_of ps)
text_lengths ps i = sym (ap length (text_parts ps i) ∙ length-append (text_of (take i ps)) (text_of (drop i ps)))

-- ---- places

-- where nothing behind the first prints has gone out, whole prints have
pub prints_sent : (ps : List Print) (i n : ℕ) → IsPlace ps i n → n ≡ 0 → AreOfPrints ps (sent_of ps i n)
prints_sent ps i n place none = (i, place.0, omega (arith, none))

pub place_within : (ps : List Print) (i n : ℕ) → IsPlace ps i n → sent_of ps i n ≤ length (text_of ps)
place_within ps i n place = omega (arith, place.1, text_lengths ps i)

pub all_sent : (ps : List Print) → sent_of ps (length ps) 0 ≡ length (text_of ps)
all_sent ps = let whole = ap (λ (all : List Print). length (text_of all)) (take-length ps) in omega (arith, whole)

-- a place stays where it is, when more is printed
stays : (xs ys : List Print) (i : ℕ) → i ≤ length xs → take i (xs ++ ys) ≡ take i xs
stays xs ys i h = take-append-le i xs ys h

pub place_stays : (xs ys : List Print) (i n : ℕ) → IsPlace xs i n → IsPlace (xs ++ ys) i n
place_stays xs ys i n place =
    let rest : text_of (drop i (xs ++ ys)) ≡ text_of (drop i xs) ++ text_of ys =
    ap (λ (ps : List Print). text_of ps) (drop-append-le i xs ys place.0) ∙ text_join (drop i xs) ys in
    let more = ap length rest ∙ length-append (text_of (drop i xs)) (text_of ys) in
    (omega (arith, place.0, length-append xs ys), omega (arith, place.1, more))

pub sent_stays : (xs ys : List Print) (i n : ℕ) → IsPlace xs i n → sent_of (xs ++ ys) i n ≡ sent_of xs i n
sent_stays xs ys i n place = ap (λ (ls : List Print). length (text_of ls) + n) (stays xs ys i place.0)

-- a place among prints to which more come
pub place_grown : (old new more : List Print) (i n : ℕ) → new ≡ old ++ more → IsPlace old i n → IsPlace new i n
place_grown old new more i n grown place =
    subst (λ (ls : List Print). IsPlace ls i n) (sym grown) (place_stays old more i n place)

pub text_stays : (xs ys : List Print) (n : ℕ) → n ≤ length (text_of xs)
    → take n (text_of (xs ++ ys)) ≡ take n (text_of xs)
text_stays xs ys n h = ap (take n) (text_join xs ys) ∙ take-append-le n (text_of xs) (text_of ys) h

-- the text of whole prints
pub prints_text : (ls : List Print) (count n : ℕ) → n ≡ length (text_of (take count ls))
    → take n (text_of ls) ≡ text_of (take count ls)
prints_text ls count n is =
    let first = take count ls in
    ap (λ (all : List Print). take n (text_of all)) (sym (take-append-drop count ls))
    ∙ (text_stays first (drop count ls) n (omega (arith, is))
    ∙ (ap (λ k. take k (text_of first)) is ∙ take-length (text_of first)))

-- ---- what goes out

-- some more bytes of what comes behind the first prints
pub rest_sent : (ps : List Print) (i at n : ℕ) (rest : List ℕ) (before after : Option (List ℕ)) → IsPlace ps i at
    → rest ≡ drop at (text_of (drop i ps)) → n ≤ length rest → Appends before after (take n rest)
    → SendsOn (text_of ps) (sent_of ps i at) (sent_of ps i (at + n)) before after
rest_sent ps i at n rest before after place is few sent =
    let a = text_of (take i ps) in
    let t = text_of (drop i ps) in
    let up : (k : ℕ) → take (length a + k) (text_of ps) ≡ a ++ take k t =
    λ k. ap (take (length a + k)) (text_parts ps i) ∙ take-append-add a t k in
    let further : take (at + n) t ≡ take at t ++ take n rest =
    take-add at n t ∙ ap (λ r. take at t ++ take n r) (sym is) in
    record {
      piece = take n rest;
      sent = sent;
      joins = up (at + n)
          ∙ (ap (λ r. a ++ r) further
          ∙ (sym (append_assoc a (take at t) (take n rest)) ∙ ap (λ r. r ++ take n rest) (sym (up at))));
      forth = omega arith;
      within = omega (arith, place.1, few, ap length is, length-drop at t, text_lengths ps i);
    }

-- all of it
pub rest_whole : (ps : List Print) (i at n : ℕ) (rest : List ℕ) → IsPlace ps i at
    → rest ≡ drop at (text_of (drop i ps)) → n ≡ length rest → sent_of ps i (at + n) ≡ length (text_of ps)
rest_whole ps i at n rest place is all =
    omega (arith, place.1, all, ap length is, length-drop at (text_of (drop i ps)), text_lengths ps i)

-- ---- what a sink has got, where its bytes are known

-- the first bytes of a text stand behind what it had
abbrev pub Holds : Option (List ℕ) → Option (List ℕ) → List ℕ → Type 0
Holds before got text = (bs : List ℕ) → before ≡ Some bs → got ≡ Some (bs ++ text)

pub holds_appends : (before got : Option (List ℕ)) (text : List ℕ) → Holds before got text → Appends before got text
holds_appends None got text h = tt
holds_appends (Some xs) got text h = subst (λ (o : Option (List ℕ)). Appends (Some xs) o text) (sym (h xs refl)) refl
