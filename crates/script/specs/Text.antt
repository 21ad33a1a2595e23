-- SPDX-License-Identifier: Apache-2.0 AND BSD-3-Clause
-- A text as the bytes that a script has for it. Assumes nothing.
use Rattle.std.specs.Prelude.{ℕ, List, [], ◌∷◌}
use Prim.Native.Char.{code}
use Prim.Native.String.{String, [] as ε, ◌∷◌ as ◌·◌}

-- the bytes of a text in ASCII
unfoldable pub text_bytes : String → List ℕ
text_bytes ε = []
text_bytes (c · rest) = code c ∷ text_bytes rest
