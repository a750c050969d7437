-- Lists of records with one put in or taken out: what they have, share and count. Assumes nothing.
use Rattle.std.proofs.Common.{◌≡◌, ℕ, suc, eqb, List, [], ◌∷◌, ◌++◌, length, sym, refl, ap, ◌∙◌, subst, ⊎_elim}
use Rattle.std.proofs.lemmas.Bool.{ne_eqb, eqb-true, eqb-false, cond-true, cond-false, cond_both, cases_Bool}
use Rattle.chain.specs.Chains.{Apart, Among, Clear, Chained, link}
use Rattle.chain.specs.Places.{put_before, put_behind, without}

pub apart_behind : (k place at : ℕ) (ks : List ℕ) → Apart k ks → (k ≡ at → ⊥) → Apart k (put_behind place at ks)
apart_behind k place at [] a n = tt
apart_behind k place at (x ∷ xs) a n = cond_both (eqb x place) (x ∷ at ∷ xs) (x ∷ put_behind place at xs) (Apart k) (λ _. (a.0, (n, a.1))) (λ _. (a.0, apart_behind k place at xs a.1 n))

pub behind_none : (place at : ℕ) (ks : List ℕ) → Apart place ks → put_behind place at ks ≡ ks
behind_none place at [] a = refl
behind_none place at (k ∷ ks) a = cond-false (eqb k place) _ _ (ne_eqb k place (λ e. a.0 (sym e))) ∙ ap (λ l. k ∷ l) (behind_none place at ks a.1)

-- no record has the number 0, so what is put before that comes last
pub before_zero : (at : ℕ) (ks : List ℕ) → Apart 0 ks → put_before 0 at ks ≡ ks ++ at ∷ []
before_zero at [] a = refl
before_zero at (k ∷ ks) a = cond-false (eqb k 0) _ _ (ne_eqb k 0 (λ e. a.0 (sym e))) ∙ ap (λ l. k ∷ l) (before_zero at ks a.1)

pub clear_before : (place at : ℕ) (ks js : List ℕ) → Apart at js → Clear ks js → Clear (put_before place at ks) js
clear_before place at [] js a c = (a, tt)
clear_before place at (k ∷ ks) js a c = cond_both (eqb k place) (at ∷ k ∷ ks) (k ∷ put_before place at ks) (λ l. Clear l js) (λ _. (a, (c.0, c.1))) (λ _. (c.0, clear_before place at ks js a c.1))

pub count_before : (place at : ℕ) (ks : List ℕ) → length (put_before place at ks) ≡ suc (length ks)
count_before place at [] = refl
count_before place at (k ∷ ks) = cond_both (eqb k place) (at ∷ k ∷ ks) (k ∷ put_before place at ks) (λ l. length l ≡ suc (suc (length ks))) (λ _. refl) (λ _. ap suc (count_before place at ks))

pub without_none : (at : ℕ) (ks : List ℕ) → Apart at ks → without at ks ≡ ks
without_none at [] a = refl
without_none at (k ∷ ks) a = cond-false (eqb k at) _ _ (ne_eqb k at (λ e. a.0 (sym e))) ∙ ap (λ l. k ∷ l) (without_none at ks a.1)

pub apart_without : (k at : ℕ) (ks : List ℕ) → Apart k ks → Apart k (without at ks)
apart_without k at [] a = tt
apart_without k at (x ∷ xs) a = cond_both (eqb x at) (without at xs) (x ∷ without at xs) (Apart k) (λ _. apart_without k at xs a.1) (λ _. (a.0, apart_without k at xs a.1))

pub apart_gone : (at : ℕ) (ks : List ℕ) → Apart at (without at ks)
apart_gone at [] = tt
apart_gone at (k ∷ ks) = cond_both (eqb k at) (without at ks) (k ∷ without at ks) (Apart at) (λ _. apart_gone at ks) (λ e. ((λ q. eqb-false k at e (sym q)), apart_gone at ks))

pub clear_without : (at : ℕ) (ks js : List ℕ) → Clear ks js → Clear (without at ks) js
clear_without at [] js c = tt
clear_without at (k ∷ ks) js c = cond_both (eqb k at) (without at ks) (k ∷ without at ks) (λ l. Clear l js) (λ _. clear_without at ks js c.1) (λ _. (c.0, clear_without at ks js c.1))

pub count_without : (links : List ℕ) (first at : ℕ) (ks : List ℕ) → Chained links first ks → Among at ks → suc (length (without at ks)) ≡ length ks
count_without links first at [] c m = absurd m
count_without links first at (k ∷ ks) c m =
    ⊎_elim
    (λ e. ap (λ l. suc (length l)) (cond-true (eqb k at) (without at ks) (k ∷ without at ks) e ∙ without_none at ks (subst (λ x. Apart x ks) (eqb-true k at e) c.3)))
    (λ e.
    let m2 : Among at ks = ⊎_elim (λ h. absurd (eqb-false k at e (sym h))) (λ h. h) m in
    ap (λ l. suc (length l)) (cond-false (eqb k at) (without at ks) (k ∷ without at ks) e) ∙ ap suc (count_without links (link links k) at ks c.4 m2))
    (cases_Bool (eqb k at))
