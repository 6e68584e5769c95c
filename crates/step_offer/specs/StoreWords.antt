-- The words on the stores, as the code offers them.
use Rattle.std.specs.Prelude.{ℕ, List}
use Rattle.machine.specs.declared.lent.SizedStores.{SizedStores}
use Rattle.machine.specs.Machine.{Stores, stores, dest_of}
use Rattle.machine.specs.Answers.{Told}
use Rattle.machine.specs.Outcomes.{Progress}
use Rattle.word_rules.specs.Table.{Row, said}
use Rattle.word_rules.specs.Offered.{StoreStep, left, store_offer}
use Rattle.step_offer.specs.declared.store_words.StoreWord.{StoreWord}

-- the stores lent, with Dest's cells
abbrev pub stores_in : SizedStores → List ℕ → Stores
stores_in s cells = stores s.gprs.now s.config.now (dest_of cells s.marks.now) s.src_a.now s.src_b.now

-- an outcome, and the settings and stores that are left
abbrev pub left_in : Told Progress → SizedStores → List ℕ → StoreStep
left_in o s cells = left o s.settings.now (stores_in s cells)

-- the word, if its opcode is in these rows
abbrev pub offered_in : StoreWord → List Row → SizedStores → List ℕ → StoreStep
offered_in x rows s cells = store_offer x.blocks x.owned x.t x.bank_a x.bank_b (said rows x.op x.word) s.settings.now (stores_in s cells)
