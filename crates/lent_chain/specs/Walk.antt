-- SPDX-License-Identifier: Apache-2.0 AND BSD-3-Clause
-- A chain in six words that the caller lends, and the descriptors of a walk in an array: address, length and flags of each.
use Prim.Native.Nat.{ℕ, zero, suc, ◌+◌, ◌-◌, ◌*◌, ◌/◌, ◌≤◌, ◌<◌, max}
use Rattle.std.proofs.Common.{arith, ap, subst, ◌∙◌}
use Rattle.std.proofs.Math.Nat.{sub-zero}
use Rattle.std.specs.Prelude.{◌≡◌, refl, Bool, true, false, Option, Some, None, Result, Ok, Err, List, [], ◌∷◌, ◌++◌, length, get_or, leb}
use Rattle.std.proofs.Math.Path.{sym}
use Rattle.std.proofs.lemmas.List.Edits.{sets}
use Rattle.std.proofs.Math.Seq.{length-sets}
use borrow.Author.Tests.{leb-true, le-leb, lt-leb}
use Rattle.wire.specs.Part.{sets-append}
use Rattle.regions.specs.Table.{pick, Table}
use Rattle.desc.specs.declared.Descriptor.{Descriptor}
use Rattle.chain.specs.Steps.{Step, chain_at, on_step, step_of, walk}
use Rattle.chain.specs.Walk.{step_falls}
use Rattle.chain.specs.declared.DescriptorChain.{DescriptorChain}
use Rattle.queue.specs.State.{pass}
use Rattle.queue.specs.Avail.{head_of}
use Rattle.queue.specs.declared.Queue.{Queue}
use Rattle.lent.specs.State.{Answer, Loaded, Now, Same, pick_true, load_of, code_of, kept}
use Rattle.lent.specs.Answers.{taken}
use Rattle.lent.specs.declared.refusal.Refusal.{Refusal}
use Rattle.lent.specs.declared.refusal.Refusal.TheVariants.{ChainShort, ChainField, NoRoom}
use Rattle.lent_chain.specs.declared.Walked.{Walked}

-- the six words of a chain, in the order of its fields, and the chain that the words hold
abbrev pub chain_words : DescriptorChain → List ℕ
chain_words c =
    c.desc_table ∷ c.queue_size ∷ c.head_index ∷ c.next_index ∷ c.ttl ∷ c.yielded_bytes ∷ []

abbrev pub chain_in : List ℕ → DescriptorChain
chain_in ws =
    record {
      desc_table = get_or ws 0 0;
      queue_size = get_or ws 1 0;
      head_index = get_or ws 2 0;
      next_index = get_or ws 3 0;
      ttl = get_or ws 4 0;
      yielded_bytes = get_or ws 5 0;
    }

-- the three words of a descriptor, and those of several
abbrev pub triple : Descriptor → List ℕ
triple d = d.addr ∷ d.len ∷ d.flags ∷ []

abbrev pub triples : List Descriptor → List ℕ
triples [] = []
triples (d ∷ ds) = triple d ++ triples ds

-- the chain behind what k steps yield at most
unfoldable pub rest : ℕ → Table → List ℕ → DescriptorChain → DescriptorChain
rest zero t m c = c
rest (suc k) t m c = on_step (step_of t m c) (λ d r. rest k t m r) c

-- the largest of the four numbers of 16 bits: no number is too large for its field
abbrev pub chain16 : List ℕ → ℕ
chain16 ws = max (max (get_or ws 1 0) (get_or ws 2 0)) (max (get_or ws 3 0) (get_or ws 4 0))

unfoldable pub fits_chain : List ℕ → Bool
fits_chain ws = pick (leb (chain16 ws) 65535) (leb (get_or ws 5 0) 4294967295) false

-- fewer than six words, or one of them too large, is a refusal of its own
abbrev pub Held : Type 0
Held = Result DescriptorChain Refusal

unfoldable pub held_of : List ℕ → Held
held_of ws = pick (leb 6 (length ws)) (pick (fits_chain ws) (Ok (chain_in ws)) (Err ChainField)) (Err ChainShort)

-- the same of six words that are there
unfoldable pub read_chain : List ℕ → Option DescriptorChain
read_chain ws = pick (fits_chain ws) (Some (chain_in ws)) None

-- how many descriptors an array has room for
abbrev pub room : List ℕ → ℕ
room out = length out / 3

-- what a walk into an array answers and leaves
pub record Filled (t : Table) (m : List ℕ) (c : DescriptorChain) (out : List ℕ) (w : Walked) (out' : List ℕ) : Type 0 where
  pub count : w.count ≡ length (walk (room out) t m c)
  pub chain : w.chain ≡ rest (room out) t m c
  pub array : out' ≡ sets out 0 (triples (walk (room out) t m c))

-- ---- what the calls on a chain answer: a number with the chain after it, a number alone where its words stay as they are, or a refusal
abbrev pub Went : Type 0
Went = Answer DescriptorChain

abbrev pub On : ℕ → DescriptorChain → Went
On k c = Now k c

abbrev pub Stay : Refusal → Went
Stay e = Err e

abbrev pub went_code : Went → ℕ
went_code x = code_of x

abbrev pub kept_after : List ℕ → Option DescriptorChain → List ℕ
kept_after cs (Some c) = pick (leb 6 (length cs)) (sets cs 0 (chain_words c)) cs
kept_after cs None = cs

abbrev pub kept_chain : List ℕ → Went → List ℕ
kept_chain cs (Ok x) = kept_after cs x.after
kept_chain cs (Err e) = cs

abbrev pub on_held : {A : Type 0} → Held → (DescriptorChain → A) → (Refusal → A) → A
on_held (Ok c) f g = f c
on_held (Err e) f g = g e

-- a walk into an array that has room for a descriptor
abbrev pub went_walk : Table → List ℕ → List ℕ → DescriptorChain → Went
went_walk t m out c = pick (leb 3 (length out)) (On (length (walk (room out) t m c)) (rest (room out) t m c)) (Stay NoRoom)

abbrev pub walk_array : Table → List ℕ → List ℕ → DescriptorChain → List ℕ
walk_array t m out c = pick (leb 3 (length out)) (sets out 0 (triples (walk (room out) t m c))) out

-- one step
abbrev pub went_step : List ℕ → Step → Went
went_step out (Some (d, r)) = pick (leb 3 (length out)) (On 1 r) (Stay NoRoom)
went_step out None = pick (leb 3 (length out)) (Same 0) (Stay NoRoom)

abbrev pub step_array : List ℕ → Step → List ℕ
step_array out (Some (d, r)) = pick (leb 3 (length out)) (sets out 0 (triple d)) out
step_array out None = out

-- a chain from a head on, in n words
abbrev pub start_on : ℕ → Loaded → Went
start_on head (Ok q) = On 0 (chain_at q.desc_table q.size head)
start_on head (Err e) = Stay e

abbrev pub start_of : Loaded → ℕ → ℕ → Went
start_of x n head = pick (leb 6 n) (start_on head x) (Stay ChainShort)

-- ---- take: the next head of a pass, and its chain walked into an array of k words, the chain behind it in n words
abbrev pub Taking : Type 0
Taking = Result (Option (ℕ × Queue)) Refusal

abbrev pub take_on : Table → List ℕ → ℕ → Loaded → Taking
take_on t m last (Ok q) = Ok (head_of t q (pass last) m)
take_on t m last (Err e) = Err e

unfoldable pub take_of : Table → List ℕ → ℕ → ℕ → ℕ → Loaded → Taking
take_of t m last n k x = pick (leb 6 n) (pick (leb 3 k) (take_on t m last x) (Err NoRoom)) (Err ChainShort)

abbrev pub taken_reply : Taking → Answer Queue
taken_reply (Ok x) = taken x
taken_reply (Err e) = Err e

-- the chain of the head that was taken, or what is answered where none was
abbrev pub on_taking : {A : Type 0} → Taking → (DescriptorChain → A) → (Went → A) → A
on_taking (Ok (Some x)) f g = f (chain_at x.1.desc_table x.1.size x.0)
on_taking (Ok None) f g = g (Same 65536)
on_taking (Err e) f g = g (Err e)

abbrev pub same : Went → Went
same x = x

-- ---- what the calls on a chain answer, and what they leave in its words and in the array
pub record WentOn (cs : List ℕ) (x : Went) (array : List ℕ) (r : ℕ) (cs' out' : List ℕ) : Type 0 where
  pub answer : r ≡ went_code x
  pub chain : cs' ≡ kept_chain cs x
  pub filled : out' ≡ array

abbrev pub taking : Table → List ℕ → ℕ → List ℕ → List ℕ → List ℕ → Taking
taking t m last ws cs out = take_of t m last (length cs) (length out) (load_of ws)

pub record TookAll (t : Table) (m : List ℕ) (last : ℕ) (ws cs out : List ℕ) (r : ℕ) (ws' cs' out' : List ℕ) : Type 0 where
  pub went : WentOn cs (on_taking (taking t m last ws cs out) (went_walk t m out) same) (on_taking (taking t m last ws cs out) (walk_array t m out) (λ x. out)) r cs' out'
  pub state : ws' ≡ kept ws (taken_reply (taking t m last ws cs out))

-- ---- case by case: the words that hold a chain and those that hold none
module _ (ws : List ℕ) where
  pub chain_fits : fits_chain ws ≡ true → (chain16 ws ≤ 65535) × (get_or ws 5 0 ≤ 4294967295)
  unfolding fits_chain
  chain_fits e = let w = pick_true (leb (chain16 ws) 65535) (leb (get_or ws 5 0) 4294967295) e in (leb-true _ _ w.0, leb-true _ _ w.1)

  pub fits_sum : chain16 ws ≤ 65535 → leb (get_or ws 5 0) 4294967295 ≡ fits_chain ws
  unfolding fits_chain
  fits_sum h = rw (le-leb _ _ h)

  pub chain_unfit : 65535 < chain16 ws → false ≡ fits_chain ws
  unfolding fits_chain
  chain_unfit h = rw (lt-leb _ _ h)

  pub held_short : length ws < 6 → Err ChainShort ≡ held_of ws
  unfolding held_of
  held_short h = rw (lt-leb _ _ h)

  module _ (h : 6 ≤ length ws) (b : Bool) (e : b ≡ fits_chain ws) where
    pub held_unfit : b ≡ false → Err ChainField ≡ held_of ws
    unfolding held_of
    held_unfit f = rw (le-leb _ _ h, sym e ∙ f)

    pub held_chain : b ≡ true → (c : DescriptorChain) → c ≡ chain_in ws → Ok c ≡ held_of ws
    unfolding held_of
    held_chain f c g = rw (le-leb _ _ h, sym e ∙ f, g)

-- ---- case by case: taking
module _ (t : Table) (m : List ℕ) (last n k : ℕ) (x : Loaded) where
  pub take_short : n < 6 → Err ChainShort ≡ take_of t m last n k x
  unfolding take_of
  take_short h = rw (lt-leb _ _ h)

  pub take_no_room : 6 ≤ n → k < 3 → Err NoRoom ≡ take_of t m last n k x
  unfolding take_of
  take_no_room h l = rw (le-leb _ _ h, lt-leb _ _ l)

  pub take_on_lem : 6 ≤ n → 3 ≤ k → (y : Taking) → y ≡ take_on t m last x → y ≡ take_of t m last n k x
  unfolding take_of
  take_on_lem h l y e = rw (le-leb _ _ h, le-leb _ _ l) e

-- ---- for the proof of `walk_into`
append_none : (ds : List Descriptor) → ds ++ [] ≡ ds
append_none [] = refl
append_none (d ∷ ds) = ap (λ (l : List Descriptor). d ∷ l) (append_none ds)

one_more : (ds : List Descriptor) (d : Descriptor) (es : List Descriptor) → ds ++ (d ∷ es) ≡ (ds ++ (d ∷ [])) ++ es
one_more [] d es = refl
one_more (e ∷ ds) d es = ap (λ (l : List Descriptor). e ∷ l) (one_more ds d es)

length_more : (ds : List Descriptor) (d : Descriptor) → length (ds ++ (d ∷ [])) ≡ length ds + 1
length_more [] d = refl
length_more (e ∷ ds) d = omega (arith, length_more ds d)

triples_more : (ds : List Descriptor) (d : Descriptor) → triples (ds ++ (d ∷ [])) ≡ triples ds ++ triple d
triples_more [] d = refl
triples_more (e ∷ ds) d = ap (λ (l : List ℕ). triple e ++ l) (triples_more ds d)

length-triples : (ds : List Descriptor) → length (triples ds) ≡ 3 * length ds
length-triples [] = refl
length-triples (e ∷ ds) = omega (arith, length-triples ds)

module _ (t : Table) (m : List ℕ) (c : DescriptorChain) where
  walk_more : (k : ℕ) (d : Descriptor) (r : DescriptorChain) → step_of t m c ≡ Some (d, r) → (walk (suc k) t m c ≡ d ∷ walk k t m r) × (rest (suc k) t m c ≡ rest k t m r)
  unfolding walk rest
  walk_more k d r e = (rw e, rw e)

  walk_over : (k : ℕ) → step_of t m c ≡ None → (walk k t m c ≡ []) × (rest k t m c ≡ c)
  unfolding walk rest
  walk_over zero e = (refl, refl)
  walk_over (suc k) e = (rw e, rw e)

  walk_full : (walk 0 t m c ≡ []) × (rest 0 t m c ≡ c)
  unfolding walk rest
  walk_full = (refl, refl)

-- so many descriptors were seen, and stand in the array
pub record Going (t : Table) (m : List ℕ) (start : DescriptorChain) (out₀ : List ℕ) (c : DescriptorChain) (count at left : ℕ) (out : List ℕ) : Type 0 where
  pub seen : List Descriptor
  pub walked : walk (room out₀) t m start ≡ seen ++ walk left t m c
  pub onward : rest (room out₀) t m start ≡ rest left t m c
  pub counted : length seen ≡ count
  pub array : out ≡ sets out₀ 0 (triples seen)
  pub same : length out ≡ length out₀
  pub place : at ≡ 3 * count
  pub space : at + 3 * left ≤ length out₀
  pub ration : count + c.ttl ≤ start.ttl

pub going_start : (t : Table) (m : List ℕ) (c : DescriptorChain) (out : List ℕ) → Going t m c out c 0 0 (room out) out
going_start t m c out =
    record { seen = []; walked = refl; onward = refl; counted = refl; array = refl; same = refl; place = refl; space = omega arith; ration = omega arith }

module _ (t : Table) (m : List ℕ) (start : DescriptorChain) (out₀ : List ℕ) (c : DescriptorChain) (count at left : ℕ) (out : List ℕ)
    (g : Going t m start out₀ c count at left out) where
  pub going_next : (d : Descriptor) (r : DescriptorChain) → step_of t m c ≡ Some (d, r) → 0 < left → (out' : List ℕ) → out' ≡ sets out at (triple d)
      → Going t m start out₀ r (count + 1) (at + 3) (left - 1) out'
  going_next d r e h out' f =
      let l : left ≡ suc (left - 1) = omega arith in
      let w = walk_more t m c (left - 1) d r e in
      let p = g.place in
      let s = g.space in
      let n = g.counted in
      let x = length_more g.seen d in
      let z : at ≡ 0 + length (triples g.seen) = omega (arith, length-triples g.seen, p, n) in
      record {
        seen = g.seen ++ (d ∷ []);
        walked = g.walked ∙ ap (λ (k : ℕ). g.seen ++ walk k t m c) l ∙ ap (λ (ds : List Descriptor). g.seen ++ ds) w.0 ∙ one_more g.seen d (walk (left - 1) t m r);
        onward = g.onward ∙ ap (λ (k : ℕ). rest k t m c) l ∙ w.1;
        counted = omega arith;
        array = f ∙ ap (λ (o : List ℕ). sets o at (triple d)) g.array ∙ ap (λ (i : ℕ). sets (sets out₀ 0 (triples g.seen)) i (triple d)) z
            ∙ sym (sets-append out₀ 0 (triples g.seen) (triple d)) ∙ ap (sets out₀ 0) (sym (triples_more g.seen d));
        same = ap length f ∙ length-sets out at (triple d) ∙ g.same;
        place = omega arith;
        space = omega arith;
        ration = let y = (step_falls t m c d r e).ration in let v = g.ration in omega arith;
      }

  going_done : (walk left t m c ≡ []) × (rest left t m c ≡ c) → Filled t m start out₀ (record { count = count; chain = c }) out
  going_done w =
      let v : walk (room out₀) t m start ≡ g.seen = g.walked ∙ ap (λ (ds : List Descriptor). g.seen ++ ds) w.0 ∙ append_none g.seen in
      record {
        count = sym (ap length v ∙ g.counted);
        chain = sym (g.onward ∙ w.1);
        array = g.array ∙ sym (ap (λ (ds : List Descriptor). sets out₀ 0 (triples ds)) v);
      }

  pub going_end : step_of t m c ≡ None → Filled t m start out₀ (record { count = count; chain = c }) out
  going_end e = going_done (walk_over t m c left e)

  pub going_full : left ≤ 0 → Filled t m start out₀ (record { count = count; chain = c }) out
  going_full h = let z : left ≡ 0 = omega arith in going_done (rw z (walk_full t m c))

-- the same by rows: k of them are filled, and the others are left
pub rows_start : (t : Table) (m : List ℕ) (c : DescriptorChain) (out : List ℕ) → Going t m c out c 0 (3 * 0) (room out - 0) out
rows_start t m c out = rw sub-zero (going_start t m c out)

module _ (t : Table) (m : List ℕ) (start : DescriptorChain) (out₀ : List ℕ) (c : DescriptorChain) (k : ℕ) (out : List ℕ)
    (g : Going t m start out₀ c k (3 * k) (room out₀ - k) out) where
  pub rows_space : k ≤ room out₀
  rows_space = omega (arith, g.space)

  pub rows_next : (d : Descriptor) (r : DescriptorChain) → step_of t m c ≡ Some (d, r) → k < room out₀ → (out' : List ℕ) → out' ≡ sets out (3 * k) (triple d)
      → Going t m start out₀ r (k + 1) (3 * (k + 1)) (room out₀ - (k + 1)) out'
  rows_next d r e h out' f =
      let P : ℕ → Type 0 = λ i. Going t m start out₀ r (k + 1) i (room out₀ - (k + 1)) out' in
      let Q : ℕ → Type 0 = λ j. Going t m start out₀ r (k + 1) (3 * k + 3) j out' in
      let x = going_next t m start out₀ c k (3 * k) (room out₀ - k) out g d r e (omega arith) out' f in
      let a : 3 * k + 3 ≡ 3 * (k + 1) = omega arith in
      let l : room out₀ - k - 1 ≡ room out₀ - (k + 1) = omega arith in
      subst P a (subst Q l x)

  pub rows_end : step_of t m c ≡ None → Filled t m start out₀ (record { count = k; chain = c }) out
  rows_end = going_end t m start out₀ c k (3 * k) (room out₀ - k) out g

  pub rows_full : room out₀ ≤ k → Filled t m start out₀ (record { count = room out₀; chain = c }) out
  rows_full h =
      let e : k ≡ room out₀ = omega (arith, rows_space) in
      let w = going_full t m start out₀ c k (3 * k) (room out₀ - k) out g (omega arith) in
      record { count = sym e ∙ w.count; chain = w.chain; array = w.array }
