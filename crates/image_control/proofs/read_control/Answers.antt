use Prim.Native.Nat.{◌+◌, ◌*◌}
use Rattle.machine.specs.Sizes.{setting_count, mutex_count, semaphore_count, bank_count, holder_most}
use Rattle.format.specs.Format.{many, numbers}
use Rattle.format.proofs.Fields.{inside, inside_two}
use Rattle.image_layout.specs.Control.{semaphore_format, thread_format, locks_format, waits_format}
use Rattle.image_layout.specs.Places.{settings_at, wait_size}
use Rattle.image_control.proofs.read_control.Goals as goal

pub returns : goal.returns
returns c =
    let s = c.args.s.now in
    let to-waits = locks_format.size in
    let to-owners = locks_format.size + waits_format.size in
    let wait = thread_format.get in
    let bank = (numbers bank_count 1 1).get in
    let w0 = inside wait to-waits settings_at s c.read_thread.ensures in
    let w1 = inside_two wait wait_size to-waits settings_at s c.read_thread-2.ensures in
    let w2 = inside_two wait (wait_size + wait_size) to-waits settings_at s c.read_thread-3.ensures in
    let held = inside (numbers mutex_count 1 holder_most).get (setting_count * 2) settings_at s c.read_bytes.ensures in
    let values = inside (many semaphore_count semaphore_format).get (setting_count * 2 + mutex_count) settings_at s c.read_semaphores.ensures in
    let owned = inside bank to-owners settings_at s c.read_bytes-2.ensures in
    let pointed = inside_two bank bank_count to-owners settings_at s c.read_bytes-3.ensures in
    λ i. record { t0 = w0 i; t1 = w1 i; t2 = w2 i; mutexes = held i; semaphores = values i; owners = owned i; pointers = pointed i }
