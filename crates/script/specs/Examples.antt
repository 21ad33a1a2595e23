-- SPDX-License-Identifier: Apache-2.0 AND BSD-3-Clause
-- Worked values, which antt computes from the definitions. Assumes nothing.
use Rattle.std.specs.Prelude.{◌-◌, ◌^◌, ◌≡◌, refl, Some, None}
use Rattle.script.specs.Text.{text_bytes}
use Rattle.script.specs.Words.{kind_of, word_end, first_word, word_from}
use Rattle.script.specs.Numbers.{digit_of, all_digits, value_of, fitting, numeral, marked, number_of}
use Rattle.script.specs.Commands.{table, same_bytes, command_in, command_of}
use Rattle.script.specs.Crc.{bit_out, bits_out, crc_byte, crc_on, crc_of}
use Rattle.script.specs.declared.commands.Command.TheVariants.{NextUsed}

-- ---- words

blanks_first : word_from (text_bytes " \tput 0 32\r") 0 ≡ Some (2, 5)
unfolding word_from first_word word_end kind_of text_bytes
blanks_first = refl

last_word : word_from (text_bytes " \tput 0 32\r") 7 ≡ Some (8, 10)
unfolding word_from first_word word_end kind_of text_bytes
last_word = refl

hash_in_word : word_from (text_bytes "head#now 1") 0 ≡ Some (0, 4)
unfolding word_from first_word word_end kind_of text_bytes
hash_in_word = refl

after_hash : word_from (text_bytes "head#now 1") 4 ≡ None
unfolding word_from first_word word_end kind_of text_bytes
after_hash = refl

-- ---- numbers

leading_zeros : number_of (text_bytes "007") ≡ Some 7
unfolding number_of numeral marked all_digits value_of fitting digit_of text_bytes
leading_zeros = refl

either_case : number_of (text_bytes "0xaF") ≡ Some 175
unfolding number_of numeral marked all_digits value_of fitting digit_of text_bytes
either_case = refl

largest : number_of (text_bytes "18446744073709551615") ≡ Some (2 ^ 64 - 1)
unfolding number_of numeral marked all_digits value_of fitting digit_of text_bytes
largest = refl

one_more : number_of (text_bytes "18446744073709551616") ≡ None
unfolding number_of numeral marked all_digits value_of fitting digit_of text_bytes
one_more = refl

mark_alone : number_of (text_bytes "0x") ≡ None
unfolding number_of numeral marked all_digits value_of fitting digit_of text_bytes
mark_alone = refl

upper_case_mark : number_of (text_bytes "0X10") ≡ None
unfolding number_of numeral marked all_digits value_of fitting digit_of text_bytes
upper_case_mark = refl

sign : number_of (text_bytes "-1") ≡ None
unfolding number_of numeral marked all_digits value_of fitting digit_of text_bytes
sign = refl

-- ---- commands

whole_name : command_of (text_bytes "next-used") ≡ Some NextUsed
unfolding command_of command_in table same_bytes text_bytes
whole_name = refl

longer_word : command_of (text_bytes "nextly") ≡ None
unfolding command_of command_in table same_bytes text_bytes
longer_word = refl

-- ---- checksums

-- the value that catalogues of checksums give to tell one CRC from another
check_value : crc_of (text_bytes "123456789") ≡ 0xCBF4_3926
unfolding crc_of crc_on crc_byte bits_out bit_out text_bytes
check_value = refl

no_bytes : crc_of (text_bytes "") ≡ 0
unfolding crc_of crc_on text_bytes
no_bytes = refl
