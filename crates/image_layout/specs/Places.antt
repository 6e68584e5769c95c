-- For internal contracts alone: where the parts of an image stand, each after the one before.
use Rattle.std.specs.Prelude.{ℕ, ◌+◌, ◌*◌}
use Rattle.machine.specs.Sizes.{setting_count, mutex_count, bank_count, config_count}
use Rattle.format.specs.Format.{head_bytes}
use Rattle.image_layout.specs.Control.{locks_format, wait_triple, waits_format}
use Rattle.image_layout.specs.Image.{control_record, gprs_record, config_kind, config_record, dest_record, marks_record, source_record}

-- ---- in the first record
abbrev pub settings_at : ℕ
settings_at = head_bytes

abbrev pub mutexes_at : ℕ
mutexes_at = settings_at + setting_count * 2

abbrev pub semaphores_at : ℕ
semaphores_at = mutexes_at + mutex_count

abbrev pub waits_at : ℕ
waits_at = settings_at + locks_format.size

-- a wait's bytes
abbrev pub wait_size : ℕ
wait_size = wait_triple.size

abbrev pub owners_at : ℕ
owners_at = waits_at + waits_format.size

abbrev pub pointers_at : ℕ
pointers_at = owners_at + bank_count

-- ---- the other records
abbrev pub gprs_at : ℕ
gprs_at = control_record.size

abbrev pub config_at : ℕ
config_at = gprs_at + gprs_record.size

abbrev pub dest_at : ℕ
dest_at = config_at + (config_record config_kind config_count).size

abbrev pub marks_at : ℕ
marks_at = dest_at + dest_record.size

abbrev pub source_a_at : ℕ
source_a_at = marks_at + marks_record.size

abbrev pub source_b_at : ℕ
source_b_at = source_a_at + (source_record 6).size
