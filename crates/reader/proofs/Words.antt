-- What is so of all bytes of a word, and of all words. Assumes nothing.
use Rattle.std.proofs.Common.{◌≡◌, ℕ, ◌≤◌, Bool, true, false, ◌&&◌, ◌||◌, leb, List, [], ◌∷◌, length, is_some, Some, None, Option, sym, refl, ap, ◌∙◌, ap₂}
use Rattle.std.specs.Char.{is_ascii_alphanumeric}
use Rattle.std.specs.List.{list_all}
use Rattle.std.proofs.lemmas.Bool.{le-leb}
use Rattle.semantics.specs.Programs.{all}
use Rattle.scan.specs.Pieces.{Bytes}
use Rattle.scan.specs.Numbers.{digit}
use Rattle.text.specs.Words.{and_then, each, letter, plain}

alphanumeric : (b : ℕ) → is_ascii_alphanumeric b ≡ (letter b || digit b)
alphanumeric b = go (leb 48 b && leb b 57) (leb 65 b && leb b 90) (leb 97 b && leb b 122)
  where
    go : (d u l : Bool) → ((d || u) || l) ≡ ((u || l) || d)
    go true true l = refl
    go true false true = refl
    go true false false = refl
    go false true l = refl
    go false false true = refl
    go false false false = refl

all_alphanumeric : (w : Bytes) → list_all is_ascii_alphanumeric w ≡ all (λ b. letter b || digit b) w
all_alphanumeric [] = refl
all_alphanumeric (b ∷ w) = ap₂ ◌&&◌ (alphanumeric b) (all_alphanumeric w)

pub plain_by_bytes : (w : Bytes) → 1 ≤ length w → length w ≤ 15 → list_all is_ascii_alphanumeric w ≡ plain w
plain_by_bytes w low high = all_alphanumeric w ∙ ap₂ (λ a b. a && b && all (λ b. letter b || digit b) w) (sym (le-leb 1 (length w) low)) (sym (le-leb (length w) 15 high))

pub each_by_all : {A : Type 0} (kind : Bytes → Option A) (ws : List Bytes) → list_all (λ w. is_some (kind w)) ws ≡ is_some (each kind ws)
each_by_all kind [] = refl
each_by_all {A} kind (w ∷ ws) = ap (λ b. is_some (kind w) && b) (each_by_all kind ws) ∙ go (kind w) (each kind ws)
  where
    go : (o : Option A) (p : Option (List A)) → (is_some o && is_some p) ≡ is_some (and_then o (λ x. and_then p (λ xs. Some (x ∷ xs))))
    go (Some x) (Some xs) = refl
    go (Some x) None = refl
    go None p = refl
