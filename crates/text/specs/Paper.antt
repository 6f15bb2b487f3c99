-- What is on a page, and what putting a text on it does.
use Rattle.io.specs.Digits.{last_digits, IsDigitCount}
use Rattle.std.specs.Prelude.{ℕ, ◌≡◌, ◌⊎◌, ◌++◌, List, take}
use Rattle.text.specs.declared.Page.{Page}

abbrev pub on_page : Page → List ℕ
on_page page = take page.used page.bytes

-- the text stands behind what was on the page, or, where that was written out before, alone
abbrev pub Put : List ℕ → List ℕ → List ℕ → Type 0
Put before text after = (after ≡ before ++ text) ⊎ (after ≡ text)

-- so does a number in a base, in as many digits as it takes, and no fewer than a width
abbrev pub PutNumber : ℕ → ℕ → ℕ → List ℕ → List ℕ → Type 0
PutNumber base width number before after = (count : ℕ) × IsDigitCount base width number count × Put before (last_digits base count number) after
