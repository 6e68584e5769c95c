-- A well-formed machine: each part has its size, and each number is in the range that the table or the image gives it.
use Rattle.std.specs.Prelude.{Bool, true, ◌&&◌, List, [], ◌∷◌, leb, eqb, length}
use Rattle.bits.specs.Ranges.{all_at_most}
use Rattle.machine.specs.declared.control.Wait.{Wait}
use Rattle.machine.specs.declared.control.Wait.TheVariants.{Clear, OnStall, OnSemaphore}
use Rattle.machine.specs.declared.control.Semaphore.{Semaphore}
use Rattle.machine.specs.declared.control.Control.{Control}
use Rattle.machine.specs.Sizes.{mutex_count, semaphore_count, bank_count, pointer_count, gpr_count, setting_count, config_count, dest_count, mark_count, source_count, half_most, cell_most, word_most, holder_most, semaphore_most, block_most, conditions_most, mask_most, condition_most}
use Rattle.machine.specs.Machine.{Machine, Stores}

-- block is bits 15–23, conditions 0–14, mask 2–9, condition 0–1 of the word that set it
abbrev pub wait_formed : Wait → Bool
wait_formed Clear = true
wait_formed (OnStall block conditions) = leb block block_most && leb conditions conditions_most
wait_formed (OnSemaphore block mask condition) = leb block block_most && (leb mask mask_most && leb condition condition_most)

-- value and maximum are 0 to 15
unfoldable pub semaphores_formed : List Semaphore → Bool
semaphores_formed [] = true
semaphores_formed (s ∷ l) = (leb s.value semaphore_most && leb s.maximum semaphore_most) && semaphores_formed l

-- 8 mutexes, free (0) or held by one thread (1 to 3)
abbrev pub mutexes_formed : Control → Bool
mutexes_formed c = eqb (length c.mutexes) mutex_count && all_at_most holder_most c.mutexes

-- 4 owners, Unpackers (0) or Matrix (1), and 4 pointers, 0 or 1
abbrev pub banks_formed : Control → Bool
banks_formed c =
    (eqb (length c.owners) bank_count && all_at_most 1 c.owners) && (eqb (length c.pointers) pointer_count && all_at_most 1 c.pointers)

abbrev pub waits_formed : Control → Bool
waits_formed c = wait_formed c.t0.wait && (wait_formed c.t1.wait && wait_formed c.t2.wait)

unfoldable pub control_formed : Control → Bool
control_formed c =
    mutexes_formed c
    && ((eqb (length c.semaphores) semaphore_count && semaphores_formed c.semaphores) && (banks_formed c && waits_formed c))

-- each lent part has its size: 4 where one has not
unfoldable pub stores_sized : Stores → Bool
stores_sized k =
    eqb (length k.gprs) gpr_count
    && (eqb (length k.config) config_count
    && (eqb (length k.dest.cells) dest_count
    && (eqb (length k.dest.marks) mark_count
    && (eqb (length k.src_a) source_count && eqb (length k.src_b) source_count))))

abbrev pub sized : Machine → Bool
sized m = eqb (length m.settings) setting_count && stores_sized m.kept

-- each number of a store is in its range
unfoldable pub stores_formed : Stores → Bool
stores_formed k =
    (all_at_most word_most k.gprs && all_at_most word_most k.config)
    && (all_at_most half_most k.dest.cells && (all_at_most cell_most k.src_a && all_at_most cell_most k.src_b))

-- each number is in its range: 10 where one is not
abbrev pub formed : Machine → Bool
formed m = control_formed m.control && (all_at_most half_most m.settings && stores_formed m.kept)

-- document 01's "well formed"
abbrev pub well_formed : Machine → Bool
well_formed m = sized m && formed m
