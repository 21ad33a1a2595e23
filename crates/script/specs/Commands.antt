-- SPDX-License-Identifier: Apache-2.0 AND BSD-3-Clause
-- The commands by their names, and which of them a word names. Assumes nothing.
use Rattle.std.specs.Prelude.{ℕ, ◌≡◌, refl, Bool, true, false, cond, ◌&&◌, List, [], ◌∷◌, eqb, ltb, zero, suc, IsUtf8, IsAscii, Option, Some, None}
use Prim.Native.String.{String}
use Rattle.std.proofs.Common.{ap₂, arith, eqb-true, eq-eqb, ltb-true}
use Rattle.std.proofs.lemmas.Bool.{false≢true}
use Rattle.std.specs.List.{list_all}
use Rattle.std.proofs.lemmas.Str.{IsUtf8-from_ascii}
use Rattle.script.specs.Text.{text_bytes}
use Rattle.script.specs.declared.commands.Command.{Command}
use Rattle.script.specs.declared.commands.Command.TheVariants.{
  Memory,
  Region,
  Bytes,
  Fill,
  U16,
  U32,
  U64,
  Desc,
  Dump,
  Sum,
  Queue,
  Size,
  Table,
  Avail,
  Used,
  Ready,
  Event,
  NextAvail,
  NextUsed,
  Reset,
  Valid,
  Begin,
  Head,
  Pop,
  Back,
  Chain,
  Next,
  Readable,
  Writable,
  Walk,
  Put,
  Stop,
  Ask,
  Question,
  State,
}

-- the commands by their names
unfoldable pub table : List (String × Command)
table =
    ("memory", Memory)
    ∷ ("region", Region)
    ∷ ("bytes", Bytes)
    ∷ ("fill", Fill)
    ∷ ("u16", U16)
    ∷ ("u32", U32)
    ∷ ("u64", U64)
    ∷ ("desc", Desc)
    ∷ ("dump", Dump)
    ∷ ("sum", Sum)
    ∷ ("queue", Queue)
    ∷ ("size", Size)
    ∷ ("table", Table)
    ∷ ("avail", Avail)
    ∷ ("used", Used)
    ∷ ("ready", Ready)
    ∷ ("event", Event)
    ∷ ("next-avail", NextAvail)
    ∷ ("next-used", NextUsed)
    ∷ ("reset", Reset)
    ∷ ("valid", Valid)
    ∷ ("begin", Begin)
    ∷ ("head", Head)
    ∷ ("pop", Pop)
    ∷ ("back", Back)
    ∷ ("chain", Chain)
    ∷ ("next", Next)
    ∷ ("readable", Readable)
    ∷ ("writable", Writable)
    ∷ ("walk", Walk)
    ∷ ("put", Put)
    ∷ ("stop", Stop)
    ∷ ("ask", Ask)
    ∷ ("question", Question)
    ∷ ("state", State)
    ∷ []

-- two lists hold the same bytes
unfoldable pub same_bytes : List ℕ → List ℕ → Bool
same_bytes [] [] = true
same_bytes [] (y ∷ ys) = false
same_bytes (x ∷ xs) [] = false
same_bytes (x ∷ xs) (y ∷ ys) = eqb x y && same_bytes xs ys

-- the command that stands beside the word in a table
unfoldable pub command_in : List (String × Command) → List ℕ → Option Command
command_in [] word = None
command_in (row ∷ rows) word = cond (same_bytes word (text_bytes row.0)) (Some row.1) (command_in rows word)

-- the command that a word names
unfoldable pub command_of : List ℕ → Option Command
command_of word = command_in table word

-- ---- laws

-- no word is no command
pub command_of_nothing : command_of [] ≡ None
unfolding command_of command_in table text_bytes same_bytes
command_of_nothing = refl

-- a word that is none of a table's names
abbrev pub NoName : List (String × Command) → List ℕ → Type 0
NoName [] word = Unit {0}
NoName (row ∷ rows) word = (word ≡ text_bytes row.0 → ⊥) × NoName rows word

-- all names are in ASCII
abbrev pub in_ascii : List (String × Command) → Bool
in_ascii [] = true
in_ascii (row ∷ rows) = list_all (λ b. ltb b 128) (text_bytes row.0) && in_ascii rows

both_true : (a b : Bool) → (a && b) ≡ true → (a ≡ true) × (b ≡ true)
both_true true b e = (refl, e)
both_true false b e = absurd (false≢true e)

same_bytes_equal : (a b : List ℕ) → same_bytes a b ≡ true → a ≡ b
unfolding same_bytes
same_bytes_equal [] [] e = refl
same_bytes_equal [] (y ∷ ys) e = absurd (false≢true e)
same_bytes_equal (x ∷ xs) [] e = absurd (false≢true e)
same_bytes_equal (x ∷ xs) (y ∷ ys) e =
    let h = both_true (eqb x y) (same_bytes xs ys) e in
    ap₂ (λ (z : ℕ) (zs : List ℕ). z ∷ zs) (eqb-true x y h.0) (same_bytes_equal xs ys h.1)

same_bytes_self : (a : List ℕ) → same_bytes a a ≡ true
unfolding same_bytes
same_bytes_self [] = refl
same_bytes_self (x ∷ xs) = rw (eq-eqb x x refl) (same_bytes_self xs)

pub same_bytes_yes : (a b : List ℕ) → a ≡ b → same_bytes a b ≡ true
same_bytes_yes a b e = rw (← e) (same_bytes_self a)

pub same_bytes_no : (a b : List ℕ) → (a ≡ b → ⊥) → same_bytes a b ≡ false
same_bytes_no a b h = told (same_bytes a b) refl
  where
    told : (t : Bool) → same_bytes a b ≡ t → same_bytes a b ≡ false
    told true e = absurd (h (same_bytes_equal a b e))
    told false e = e

command_in_none : (rows : List (String × Command)) (word : List ℕ) → NoName rows word → None ≡ command_in rows word
unfolding command_in
command_in_none [] word h = refl
command_in_none (row ∷ rows) word h = rw (same_bytes_no word (text_bytes row.0) h.0) (command_in_none rows word h.1)

pub command_of_none : (word : List ℕ) → NoName table word → None ≡ command_of word
unfolding command_of
command_of_none word h = command_in_none table word h

ascii : (bytes : List ℕ) → list_all (λ b. ltb b 128) bytes ≡ true → IsAscii bytes
ascii [] e i = omega arith
ascii (b ∷ rest) e zero = ltb-true b 128 (both_true (ltb b 128) (list_all (λ x. ltb x 128) rest) e).0
ascii (b ∷ rest) e (suc i) = ascii rest (both_true (ltb b 128) (list_all (λ x. ltb x 128) rest) e).1 i

no_name : (rows : List (String × Command)) (word : List ℕ) → in_ascii rows ≡ true → (IsUtf8 word → ⊥) → NoName rows word
no_name [] word e h = tt
no_name (row ∷ rows) word e h =
    let parts = both_true (list_all (λ b. ltb b 128) (text_bytes row.0)) (in_ascii rows) e in
    (λ same. h (rw same (IsUtf8-from_ascii (text_bytes row.0) (ascii (text_bytes row.0) parts.0))), no_name rows word parts.1 h)

-- bytes that are no text are no name
pub command_of_no_text : (word : List ℕ) → (IsUtf8 word → ⊥) → None ≡ command_of word
unfolding table text_bytes
command_of_no_text word h = command_of_none word (no_name table word refl h)
