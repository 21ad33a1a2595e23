-- SPDX-License-Identifier: Apache-2.0 AND BSD-3-Clause
-- What holds of both cases of a test holds of the pick: the eliminators of the calls are made of these.
use Rattle.std.specs.Prelude.{◌≡◌, Bool, true, false, refl}
use Rattle.regions.specs.Table.{pick}

pub pick_elim : {A : Type 0} (P : A → Type 0) (b : Bool) (x y : A) → (b ≡ true → P x) → (b ≡ false → P y) → P (pick b x y)
pick_elim P true x y f g = f refl
pick_elim P false x y f g = g refl

pub pick_same : {A : Type 0} (b : Bool) (x : A) → pick b x x ≡ x
pick_same true x = refl
pick_same false x = refl
