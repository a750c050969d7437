-- Records that differ in their links at most. Assumes nothing.
use Rattle.std.proofs.Common.{◌≡◌, ℕ, zero, suc, ◌<◌, ◌≤◌, List, [], ◌∷◌, map, length, get_or, set, sym, refl, ap, ◌∙◌, arith}
use Rattle.std.proofs.lemmas.List.{length-map}
use Rattle.chain.specs.Chains.{with_links, OnlyLinks}

module _ {R : Type 0} (s : R → ℕ) (u : R → ℕ → R) (reads : (r : R) (n : ℕ) → s (u r n) ≡ n) (again : (r : R) (m n : ℕ) → u (u r m) n ≡ u r n) (same : (r : R) → u r (s r) ≡ r) where
  -- nothing changed
  pub none : (rs : List R) → OnlyLinks s u rs rs
  none [] = refl
  none (r ∷ rs) = let h = sym (same r) in let t = none rs in cc

  -- one link changed
  pub one : (rs : List R) (k to : ℕ) (x : R) → x ≡ get_or rs k x → k < length rs → OnlyLinks s u rs (set rs k (u x to))
  one [] k to x e h = refl
  one (r ∷ rs) zero to x e h = let t = none rs in let q = reads x to in cc
  one (r ∷ rs) (suc k) to x e h = let p = sym (same r) in let t = one rs k to x e (omega arith) in cc

  -- the links that come last stay
  twice : (rs : List R) (ns ms : List ℕ) → length rs ≤ length ms → with_links u (with_links u rs ns) ms ≡ with_links u rs ms
  twice [] ns ms h = refl
  twice (r ∷ rs) [] ms h = refl
  twice (r ∷ rs) (n ∷ ns) [] h = absurd (omega arith)
  twice (r ∷ rs) (n ∷ ns) (m ∷ ms) h = let p = again r n m in let t = twice rs ns ms (omega arith) in cc

  pub and_then : (a b c : List R) → length a ≡ length c → OnlyLinks s u a b → OnlyLinks s u b c → OnlyLinks s u a c
  and_then a b c h p q = q ∙ ap (λ l. with_links u l (map s c)) p ∙ twice a (map s b) (map s c) (omega (arith, length-map c s))
