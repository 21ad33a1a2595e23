-- SPDX-License-Identifier: Apache-2.0 AND BSD-3-Clause
-- How the writes come to what `memory` says of them (Wrote, WroteBoth): by a run of places, byte by byte, and two at a time. Nobody else
-- needs these laws.
use Rattle.std.specs.Prelude.{ℕ, ◌+◌, ◌≤◌, ◌<◌, ◌≡◌, refl, Bool, true, false, Option, List, [], ◌∷◌, ◌++◌, length, get_or, take}
use Rattle.std.proofs.Common.{arith, add-one, sym, ap, ◌∙◌, take_all, take-suc, length-take-le}
use Rattle.std.proofs.lemmas.List.Edits.{sets}
use Rattle.wire.specs.Part.{sets-whole}
use Rattle.regions.specs.Table.{pick, Table, spot}
use Rattle.regions.specs.Spots.{spots, spots_snoc, length-spots, RunAt}
use Rattle.memory.specs.Cells.{store, store1, length-store}
use Rattle.memory.specs.Access.{writable, run_fits, after, Wrote, WroteBoth, after-length, after_refused, after_done, after_run, writable_run}

-- ---- by a run of places; n is what the code has for the number of bytes
module _ (t : Table) (m : List ℕ) (a : ℕ) (bs : List ℕ) (n : ℕ) (e : n ≡ length bs) where
  pub wrote_run : (i : ℕ) (m' : List ℕ) → RunAt t (length m) a n i → m' ≡ sets m i bs → Wrote t m a bs true m'
  wrote_run i m' r f =
      let w : RunAt t (length m) a (length bs) i = rw e at r in
      record { ok = sym (writable_run t m a (length bs) i w); mem = f ∙ sym (after_run t m a bs i w) }

-- ---- byte by byte
store_snoc : (m : List ℕ) (ps : List (Option ℕ)) (p : Option ℕ) (bs : List ℕ) (b : ℕ) → length ps ≡ length bs → store m (ps ++ p ∷ []) (bs ++ b ∷ []) ≡ store1 (store m ps bs) p b
store_snoc m [] p [] b e = refl
store_snoc m [] p (c ∷ bs) b e = absurd (omega arith)
store_snoc m (q ∷ ps) p [] b e = absurd (omega arith)
store_snoc m (q ∷ ps) p (c ∷ bs) b e = store_snoc (store1 m q c) ps p bs b (omega arith)

module _ (t : Table) (m : List ℕ) (a : ℕ) where
  -- the first k bytes of src are stored
  module _ (src : List ℕ) (k : ℕ) (l : List ℕ) (u : l ≡ store m (spots t (length m) a k) (take k src)) where
    stored-length : length l ≡ length m
    stored-length = ap length u ∙ length-store m (spots t (length m) a k) (take k src)

    pub stored_next : k < length src → (l' : List ℕ) → l' ≡ store1 l (spot t (length l) (a + k)) (get_or src k 0)
        → l' ≡ store m (spots t (length m) a (k + 1)) (take (k + 1) src)
    stored_next h l' e =
        e ∙ rw (stored-length, add-one, take-suc src k 0 h, spots_snoc, u)
        (sym (store_snoc m (spots t (length m) a k) (spot t (length m) (a + k)) (take k src) (get_or src k 0) (length-spots t (length m) a k ∙ sym (length-take-le k src (omega arith)))))

    pub stored_all : k ≤ length src → length src ≤ k → l ≡ store m (spots t (length m) a (length src)) src
    stored_all h g = let z : k ≡ length src = omega arith in
        u ∙ ap (store m (spots t (length m) a k)) (take_all k src g) ∙ ap (λ (x : ℕ). store m (spots t (length m) a x) src) z

  module _ (bs : List ℕ) (n : ℕ) (e : n ≡ length bs) (r : Bool) (o : r ≡ writable t (length m) a n) where
    pub wrote_slow : r ≡ true → (src m' : List ℕ) → src ≡ bs → m' ≡ store m (spots t (length m) a (length src)) src → Wrote t m a bs true m'
    wrote_slow f src m' b g =
        let w : r ≡ writable t (length m) a (length bs) = rw e at o in
        record { ok = sym f ∙ w; mem = rw b at g ∙ sym (after_done t m a bs (sym w ∙ f)) }

    pub wrote_refused : r ≡ false → Wrote t m a bs false m
    wrote_refused f =
        let w : r ≡ writable t (length m) a (length bs) = rw e at o in
        record { ok = sym f ∙ w; mem = sym (after_refused t m a bs (sym w ∙ f)) }

-- the second of two writes to the slice has the room that it had before the first
pub run_fits_after : (t : Table) (m : List ℕ) (a n k : ℕ) → n ≡ k → (j : ℕ) → RunAt t (length m) a n j → (m' : List ℕ) → length m' ≡ length m → j + k ≤ length m'
run_fits_after t m a n k e j r m' f = let w = run_fits t (length m) a n k e j r in omega arith

-- a buffer as long as the value holds its bytes
pub buffered : (out bs src : List ℕ) (n : ℕ) → length out ≡ n → length bs ≡ n → src ≡ sets out 0 bs → src ≡ bs
buffered out bs src n e f g = g ∙ sets-whole out bs (e ∙ sym f)

-- ---- two writes, both or neither
module _ (t : Table) (m : List ℕ) (a : ℕ) (bs : List ℕ) (b : ℕ) (cs : List ℕ) where
  pub both_run : (n k : ℕ) → n ≡ length bs → k ≡ length cs → (i j : ℕ) (m₁ m₂ : List ℕ) → RunAt t (length m) a n i → RunAt t (length m) b k j
      → m₁ ≡ sets m i bs → m₂ ≡ sets m₁ j cs → WroteBoth t m a bs b cs true m₂
  both_run n k x y i j m₁ m₂ p q u v =
      let e : RunAt t (length m) a (length bs) i = rw x at p in
      let f : RunAt t (length m) b (length cs) j = rw y at q in
      record {
        ok = sym (rw (writable_run t m a (length bs) i e) (writable_run t m b (length cs) j f));
        mem = v ∙ ap (λ (l : List ℕ). sets l j cs) (u ∙ sym (after_run t m a bs i e)) ∙ sym (after_run t (after t m a bs) b cs j (rw after-length f));
      }

  module _ (n : ℕ) (s : n ≡ length cs) (c : Bool) (o : c ≡ writable t (length m) b n) where
    second : c ≡ writable t (length m) b (length cs)
    second = rw s at o

    no_second : (x y : Bool) → y ≡ false → pick x y false ≡ false
    no_second true y f = f
    no_second false y f = refl

    pub both_no_second : c ≡ false → WroteBoth t m a bs b cs false m
    both_no_second f = record { ok = sym (no_second (writable t (length m) a (length bs)) (writable t (length m) b (length cs)) (sym second ∙ f)); mem = refl }

    module _ (x : c ≡ true) (d : Bool) (m₁ : List ℕ) (w : Wrote t m a bs d m₁) where
      pub both_no_first : d ≡ false → WroteBoth t m a bs b cs false m₁
      both_no_first f =
          let g : writable t (length m) a (length bs) ≡ false = sym w.ok ∙ f in
          record { ok = sym (rw g); mem = w.mem ∙ after_refused t m a bs g }

      pub both_done : d ≡ true → (r : Bool) (m₂ : List ℕ) → Wrote t m₁ b cs r m₂ → WroteBoth t m a bs b cs r m₂
      both_done f r m₂ v =
          let g : writable t (length m) a (length bs) ≡ true = sym w.ok ∙ f in
          let l : length m₁ ≡ length m = ap length w.mem ∙ after-length t m a bs in
          let k : r ≡ true = v.ok ∙ ap (λ (z : ℕ). writable t z b (length cs)) l ∙ sym second ∙ x in
          record {
            ok = rw g (k ∙ sym x ∙ second);
            mem = rw k (v.mem ∙ ap (λ (z : List ℕ). after t z b cs) w.mem);
          }
