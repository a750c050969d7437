-- From one list to the next. Assumes nothing.
use Rattle.std.proofs.Common.{◌≡◌, ℕ, zero, suc, ◌+◌, ◌-◌, ◌<◌, ◌≤◌, Bool, true, false, cond, ltb, List, [], ◌∷◌, ◌++◌, map, length, get_or, take, drop, set, replicate, sym, refl, ap, ◌∙◌, subst, ⊎_elim, arith}
use Rattle.std.proofs.lemmas.List.{drop_more, drop_all, drop-set, take-set, length-append, length-replicate, length-set, get_or_append_left, get_or-append_right, get_or-replicate, take-take, get_or-take, set-append_right, append_assoc, replicate_more}
use Rattle.std.proofs.lemmas.Bool.{cases_lt, lt-ltb, le-ltb}
use Rattle.domain.specs.Model.{Model}
use Rattle.semantics.specs.Cases.{codes, settled_codes, each_of, tuples}
use Rattle.checker.specs.Walks.{above, left, present, set_of, sets, Known, first_digits}
use Rattle.checker.proofs.Above.{codes_first}

-- the lists that begin with one of some entries
abbrev begun : List (List ℕ) → List ℕ → List (List ℕ)
begun ds xs = each_of (λ a. map (λ t. a ∷ t) (tuples ds)) xs

module _ (d : List ℕ) (ds : List (List ℕ)) (c : ℕ) (cs : List ℕ) where
  -- the last list of the rest, and an entry that has a next one
  entry_next : (x : ℕ) (es : List ℕ) → above c d ≡ x ∷ above x d → left ds cs ≡ present ds cs ∷ [] → left ds es ≡ tuples ds →
      left (d ∷ ds) (c ∷ cs) ≡ present (d ∷ ds) (c ∷ cs) ∷ left (d ∷ ds) (x ∷ es)
  entry_next x es more over all =
      (λ i. map (λ t. c ∷ t) (over i) ++ begun ds (more i)) ∙ ap (λ l. (c ∷ present ds cs) ∷ (map (λ t. x ∷ t) l ++ begun ds (above x d))) (sym all)

  -- or has none
  entry_over : above c d ≡ [] → left ds cs ≡ present ds cs ∷ [] → left (d ∷ ds) (c ∷ cs) ≡ present (d ∷ ds) (c ∷ cs) ∷ []
  entry_over none over = λ i. map (λ t. c ∷ t) (over i) ++ begun ds (none i)

-- the first entry, before all lists of the rest
entry_first : (d : List ℕ) (ds : List (List ℕ)) (x : ℕ) (es : List ℕ) → d ≡ x ∷ above x d → left ds es ≡ tuples ds → left (d ∷ ds) (x ∷ es) ≡ tuples (d ∷ ds)
entry_first d ds x es least all = ap (λ l. map (λ t. x ∷ t) l ++ begun ds (above x d)) all ∙ sym (ap (begun ds) least)

-- equal entries before
behind_front :
    (i : ℕ) (ds : List (List ℕ)) (cs es : List ℕ) → i ≤ length ds → i ≤ length cs → i ≤ length es → take i es ≡ take i cs →
    left (drop i ds) (drop i cs) ≡ present (drop i ds) (drop i cs) ∷ left (drop i ds) (drop i es) → left ds cs ≡ present ds cs ∷ left ds es
behind_front zero ds cs es p q r same h = h
behind_front (suc i) [] cs es p q r same h = absurd (omega arith)
behind_front (suc i) (d ∷ ds) [] es p q r same h = absurd (omega arith)
behind_front (suc i) (d ∷ ds) (c ∷ cs) [] p q r same h = absurd (omega arith)
behind_front (suc i) (d ∷ ds) (c ∷ cs) (e ∷ es) p q r same h =
    let head : c ≡ e = sym (ap (λ l. get_or l 0 0) same) in
    let rest = behind_front i ds cs es (omega arith) (omega arith) (omega arith) (ap (drop 1) same) h in
    ap (λ l. map (λ t. c ∷ t) l ++ begun ds (above c d)) rest ∙ ap (λ k. (c ∷ present ds cs) ∷ (map (λ t. k ∷ t) (left ds es) ++ begun ds (above k d))) head

-- from the place p on the old list is the last there is, and the new one the first
pub record Carried (ds : List (List ℕ)) (old new : List ℕ) (p : ℕ) : Type 0 where
  pub front : take p new ≡ take p old
  pub over : left (drop p ds) (drop p old) ≡ present (drop p ds) (drop p old) ∷ []
  pub all : left (drop p ds) (drop p new) ≡ tuples (drop p ds)
  pub long : length new ≡ length old

pub carried_none : (ds : List (List ℕ)) (cs : List ℕ) (p : ℕ) → length ds ≤ p → Carried ds cs cs p
carried_none ds cs p l =
    let e = drop_all p ds l in
    record {
      front = refl;
      over = ap (λ z. left z (drop p cs)) e ∙ sym (ap (λ z. present z (drop p cs) ∷ []) e);
      all = ap (λ z. left z (drop p cs)) e ∙ sym (ap tuples e);
      long = refl;
    }

-- one place further to the front: the set there, and the entry in it
module _ (ds : List (List ℕ)) (old new : List ℕ) (i : ℕ) (d : List ℕ) (c : ℕ)
    (in-sets : i < length ds) (in_List : i < length old) (here : drop i ds ≡ d ∷ drop (i + 1) ds) (entry : c ≡ get_or new i 0) (h : Carried ds old new (i + 1)) where
  same_entry : get_or old i 0 ≡ c
  same_entry =
      let less : i < i + 1 = omega arith in
      sym (get_or-take (i + 1) old i 0 less) ∙ ap (λ l. get_or l i 0) (sym h.front) ∙ get_or-take (i + 1) new i 0 less ∙ sym entry

  old_here : drop i old ≡ c ∷ drop (i + 1) old
  old_here = drop_more old i 0 in_List ∙ ap (λ k. k ∷ drop (i + 1) old) same_entry

  in_new : i < length new
  in_new = let l = h.long in omega arith

  same_front : (x : ℕ) → take i (set new i x) ≡ take i old
  same_front x =
      let le : i ≤ i + 1 = omega arith in
      take-set new i x ∙ sym (take-take i (i + 1) new le) ∙ ap (take i) h.front ∙ take-take i (i + 1) old le

  -- the entry goes on, and the walk with it
  pub goes_on : (x : ℕ) → above c d ≡ x ∷ above x d → left ds old ≡ present ds old ∷ left ds (set new i x)
  goes_on x more =
      let rest = drop (i + 1) ds in
      let here-next : left (drop i ds) (drop i old) ≡ present (drop i ds) (drop i old) ∷ left (drop i ds) (drop i (set new i x)) =
      (λ j. left (here j) (old_here j)) ∙ entry_next d rest c (drop (i + 1) old) x (drop (i + 1) new) more h.over h.all
      ∙ sym (λ j. present (here j) (old_here j) ∷ left (here j) (drop-set new i x in_new j)) in
      let l = length-set new i x in
      let n = in_new in
      behind_front i ds old (set new i x) (omega arith) (omega arith) (omega arith) (same_front x) here-next

  -- the entry falls back to its first
  pub falls_back : (x : ℕ) → above c d ≡ [] → d ≡ x ∷ above x d → Carried ds old (set new i x) i
  falls_back x none least =
      let rest = drop (i + 1) ds in
      record {
        front = same_front x;
        over = (λ j. left (here j) (old_here j)) ∙ entry_over d rest c (drop (i + 1) old) none h.over ∙ sym (λ j. present (here j) (old_here j) ∷ []);
        all = (λ j. left (here j) (drop-set new i x in_new j)) ∙ entry_first d rest x (drop (i + 1) new) least h.all ∙ sym (ap tuples here);
        long = length-set new i x ∙ h.long;
      }

-- the sets of free entries and choices
module _ (m : Model) (n f : ℕ) where
  pub length_sets : length (sets m n f) ≡ n + f
  length_sets =
      let a = length-append (replicate n (codes m)) (replicate f (settled_codes m)) in
      let b = length-replicate n (codes m) in
      let c = length-replicate f (settled_codes m) in
      omega arith

  sets_at : (i : ℕ) → i < n + f → get_or (sets m n f) i [] ≡ set_of m (ltb i n)
  sets_at i l =
      let k = length-replicate n (codes m) in
      ⊎_elim
      (λ h. get_or_append_left (replicate n (codes m)) (replicate f (settled_codes m)) [] i (omega arith) ∙ get_or-replicate n i (codes m) [] h ∙ sym (ap (set_of m) (lt-ltb i n h)))
      (λ h. get_or-append_right (replicate n (codes m)) (replicate f (settled_codes m)) n i [] k h ∙ get_or-replicate f (i - n) (settled_codes m) [] (omega arith) ∙ sym (ap (set_of m) (le-ltb i n h)))
      (cases_lt i n)

  pub sets_more : (i : ℕ) → i < n + f → drop i (sets m n f) ≡ set_of m (ltb i n) ∷ drop (i + 1) (sets m n f)
  sets_more i l = let k = length_sets in drop_more (sets m n f) i [] (omega arith) ∙ ap (λ d. d ∷ drop (i + 1) (sets m n f)) (sets_at i l)

  -- a turn of the walk, from the last place to the first; `n2` is n as the walk reads it
  module _ (n2 place : ℕ) (old new : List ℕ) (same : n2 ≡ n) (some : 0 < place) (few : place ≤ n + f) (room : n + f ≤ length old) (h : Carried (sets m n f) old new place) where
    at_place : drop (place - 1) (sets m n f) ≡ set_of m (ltb (place - 1) n2) ∷ drop (place - 1 + 1) (sets m n f)
    at_place = sets_more (place - 1) (omega arith) ∙ ap (λ k. set_of m (ltb (place - 1) k) ∷ drop (place - 1 + 1) (sets m n f)) (sym same)

    before : Carried (sets m n f) old new (place - 1 + 1)
    before = let e : place ≡ place - 1 + 1 = omega arith in subst (Carried (sets m n f) old new) e h

    pub turn_on :
        (x : ℕ) → above (get_or new (place - 1) 0) (set_of m (ltb (place - 1) n2)) ≡ x ∷ above x (set_of m (ltb (place - 1) n2)) →
        left (sets m n f) old ≡ present (sets m n f) old ∷ left (sets m n f) (set new (place - 1) x)
    turn_on x more = let k = length_sets in goes_on (sets m n f) old new (place - 1) (set_of m (ltb (place - 1) n2)) (get_or new (place - 1) 0) (omega arith) (omega arith) at_place refl before x more

    pub turn_back :
        (x : ℕ) → above (get_or new (place - 1) 0) (set_of m (ltb (place - 1) n2)) ≡ [] → set_of m (ltb (place - 1) n2) ≡ x ∷ above x (set_of m (ltb (place - 1) n2)) →
        Carried (sets m n f) old (set new (place - 1) x) (place - 1)
    turn_back x none least = let k = length_sets in falls_back (sets m n f) old new (place - 1) (set_of m (ltb (place - 1) n2)) (get_or new (place - 1) 0) (omega arith) (omega arith) at_place refl before x none least

-- the first entry of each kind
pub set_first : (m : Model) (size least : ℕ) → 0 < m.size → Known m size least → (free : Bool) → set_of m free ≡ cond free 0 least ∷ above (cond free 0 least) (set_of m free)
set_first m size least some k true = codes_first m.size some
set_first m size least some k false = k.least_settled

-- each entry at the first of its set
choices_first : (d : List ℕ) (x : ℕ) → d ≡ x ∷ above x d → (f k : ℕ) → f ≤ k → left (replicate f d) (replicate k x) ≡ tuples (replicate f d)
choices_first d x least zero k l = refl
choices_first d x least (suc f) zero l = absurd (omega arith)
choices_first d x least (suc f) (suc k) l = entry_first d (replicate f d) x (replicate k x) least (choices_first d x least f k (omega arith))

entries_first :
    (a d : List ℕ) (w x : ℕ) → a ≡ w ∷ above w a → d ≡ x ∷ above x d → (n f k : ℕ) → f ≤ k →
    left (replicate n a ++ replicate f d) (replicate n w ++ replicate k x) ≡ tuples (replicate n a ++ replicate f d)
entries_first a d w x p q zero f k l = choices_first d x q f k l
entries_first a d w x p q (suc n) f k l = entry_first a (replicate n a ++ replicate f d) w (replicate n w ++ replicate k x) p (entries_first a d w x p q n f k l)

-- so is the first list
pub all_left : (m : Model) (size least n f : ℕ) → 0 < m.size → Known m size least → n ≤ 4 → f ≤ 8 → left (sets m n f) (first_digits n least) ≡ tuples (sets m n f)
all_left m size least n f some k few-free few-choices = entries_first (codes m) (settled_codes m) 0 least (set_first m size least some k true) (set_first m size least some k false) n f (12 - n) (omega arith)

-- one more of the front entries written
pub front_more : (w x i k : ℕ) → 0 < k → set (replicate i w ++ replicate k x) i w ≡ replicate (i + 1) w ++ replicate (k - 1) x
front_more w x i zero l = absurd (omega arith)
front_more w x i (suc k) l =
    let z : i - i ≡ 0 = omega arith in
    let y : k ≡ suc k - 1 = omega arith in
    set-append_right (replicate i w) (replicate (suc k) x) i i w (length-replicate i w) (omega arith)
    ∙ ap (λ j. replicate i w ++ set (replicate (suc k) x) j w) z
    ∙ sym (append_assoc (replicate i w) (w ∷ []) (replicate k x))
    ∙ (λ j. replicate_more i w j ++ replicate (y j) x)
