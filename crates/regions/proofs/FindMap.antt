-- SPDX-License-Identifier: Apache-2.0 AND BSD-3-Clause
-- What `find_map` answers over an iterator that says which items it has left.
use Rattle.std.specs.Prelude.{ℕ, zero, suc, ◌+◌, ◌<◌, ◌≡◌, List, [], ◌∷◌, ◌++◌, slice_get, Option, Some, None, MatchOption, IfSome, IsSomeAnd, IsTrue}
use Rattle.std.proofs.Common.{arith, refl, sym, ap, subst, ◌∙◌}
use Rattle.std.proofs.lemmas.Option.{IfSome_then}
use Rattle.std.specs.Fn.{Mut, Called}
use Rattle.std.specs.Iterator.{YieldsFirst, Yields}
use Rattle.std.specs.Iterator.Runs.{SomeRun, YieldsRun, AllItemsGive, IsFirstToGive, CallKeepsClosure}
use Rattle.regions.specs.Table.{first_some}

module _ {A B : Type 0} (h : A → Option B) where
  none_all : (xs : List A) → ((k : ℕ) → IfSome (slice_get xs k) (λ x. None ≡ h x)) → None ≡ first_some h (xs ++ [])
  none_all [] f = refl
  none_all (x ∷ xs) f = rw (sym (f 0)) (none_all xs (λ k. f (suc k)))

  some_at : (xs ys : List A) (i : ℕ) (y : B) → IsSomeAnd (slice_get xs i) (λ x. Some y ≡ h x)
      → ((k : ℕ) → k < i → IsSomeAnd (slice_get xs k) (λ x. None ≡ h x)) → Some y ≡ first_some h (xs ++ ys)
  some_at [] ys i y e f = absurd e
  some_at (x ∷ xs) ys zero y e f = rw (sym e) refl
  some_at (x ∷ xs) ys (suc i) y e f = rw (sym (f 0 (omega arith))) (some_at xs ys i y e (λ k l. f (suc k) (omega arith)))

yields_rest : {S A : Type 0} (rest : S → List A) (xs : List A) (s t : S) → Yields (YieldsFirst rest) s xs t → rest s ≡ xs ++ rest t
yields_rest rest [] s t e = ap rest e
yields_rest {A = A} rest (x ∷ xs) s t y = y.1 ∙ ap (λ (l : List A). x ∷ l) (yields_rest rest xs y.0 t y.2)

some_then : {A : Type 0} (o : Option A) {P Q : A → Type 0} → IsSomeAnd o P → ((x : A) → P x → Q x) → IsSomeAnd o Q
some_then (Some x) p f = f x p
some_then None p f = absurd p

module _ {S A B F : Type 0} (rest : S → List A) (g : Mut F (A × Unit {0}) (Option B)) (f : F) (h : A → Option B)
    (calls : (x : A) (o : Option B) (q : F) → Called g f (x, tt) o q → (q ≡ f) × (o ≡ h x)) where
  keeps : CallKeepsClosure g f
  keeps a o q k = (calls a.0 o q k).0

  pub found : (s : S) (r : Option B)
      → SomeRun (YieldsFirst rest) s (λ p. MatchOption r (IsTrue p.whole × AllItemsGive p g f None) (λ y. (i : ℕ) × (i < p.len) × (p.len ≡ i + 1) × IsFirstToGive p g f (Some y) None i))
      → r ≡ first_some h (rest s)
  unfolding YieldsRun
  found s None w =
      let p = w.0 in
      let d = p.gave.0 in
      let gone = (d.2 w.2.0).1 in
      let all = yields_rest rest p.items p.from d.0 d.1 in
      let Q : Option A → Type 0 = λ o. IfSome o (λ x. None ≡ h x) in
      none_all h p.items (λ k. subst Q (p.gave.1 k) (IfSome_then (p.at k) (w.2.1 keeps k) (λ x c. (calls x None f c).1)))
      ∙ ap (first_some h) (ap (λ (l : List A). p.items ++ l) (sym gone.0) ∙ sym all ∙ ap rest w.1)
  found s (Some y) w =
      let p = w.0 in
      let d = p.gave.0 in
      let all = yields_rest rest p.items p.from d.0 d.1 in
      let i = w.2.0 in
      let c = w.2.3 keeps in
      let Q : Option A → Type 0 = λ o. IsSomeAnd o (λ x. Some y ≡ h x) in
      let R : Option A → Type 0 = λ o. IsSomeAnd o (λ x. None ≡ h x) in
      some_at h p.items (rest d.0) i y (subst Q (p.gave.1 i) (some_then (p.at i) c.0 (λ x k. (calls x (Some y) f k).1)))
      (λ k l. subst R (p.gave.1 k) (some_then (p.at k) (c.1 k l) (λ x k. (calls x None f k).1)))
      ∙ ap (first_some h) (sym all ∙ ap rest w.1)
