use Rattle.std.proofs.Common.{rules, ◌≡◌, ◌≢◌, length, arith, Err}
use Rattle.machine.specs.declared.refusal.Refusal.TheVariants.{BadLength}
use Rattle.machine.specs.Sizes.{config_count, dest_count, gpr_count, mark_count, setting_count, source_count}
use Rattle.machine.specs.Machine.{Machine, machine}
use Rattle.machine.proofs.StoreFacts.{SizedFacts, facts_sized}
use Rattle.format.proofs.Lawful.{accepts_whole}
use Rattle.image_layout.specs.Image.{image}
use Rattle.image.proofs.Answers.{load_unsized, load_bad, load_taken}
use Rattle.image.proofs.Lent.{taken_mut, not_taken, unsized}
use Rattle.image.proofs.Scanned.{scan_bad, scan_taken}
use Rattle.image.proofs.load_parts.Goals as goal

pub returns-in_err-settings : goal.returns-in_err-settings
returns-in_err-settings c control =
    let a = c.args in
    let handed : Machine = machine control a.settings.now a.gprs.now a.config.now a.dest.now a.marks.now a.src_a.now a.src_b.now in
    let short : length a.settings.now ≢ setting_count = not_taken a.settings.now setting_count c.in_err-settings.ensures.ok_part c.as_mut_array.ensures.cases in
    let r : c.from_residual.result ≡ Err BadLength = search rules in
    rw r (load_unsized a.bytes.now handed (unsized handed (λ f. short f.settings)))

pub returns-in_err-gprs : goal.returns-in_err-gprs
returns-in_err-gprs c control =
    let a = c.args in
    let handed : Machine = machine control a.settings.now a.gprs.now a.config.now a.dest.now a.marks.now a.src_a.now a.src_b.now in
    let settings = taken_mut a.settings.now setting_count c.in_ok-settings.ensures.ok_part c.as_mut_array.ensures.cases in
    let short : length a.gprs.now ≢ gpr_count = not_taken a.gprs.now gpr_count c.in_err-gprs.ensures.ok_part c.as_mut_array-2.ensures.cases in
    let r : c.from_residual-in_err-gprs.result ≡ Err BadLength = search rules in
    rw (r, settings.0) (load_unsized a.bytes.now handed (unsized handed (λ f. short f.gprs)))

pub returns-in_err-config : goal.returns-in_err-config
returns-in_err-config c control =
    let a = c.args in
    let handed : Machine = machine control a.settings.now a.gprs.now a.config.now a.dest.now a.marks.now a.src_a.now a.src_b.now in
    let settings = taken_mut a.settings.now setting_count c.in_ok-settings.ensures.ok_part c.as_mut_array.ensures.cases in
    let gprs = taken_mut a.gprs.now gpr_count c.in_ok-gprs.ensures.ok_part c.as_mut_array-2.ensures.cases in
    let short : length a.config.now ≢ config_count = not_taken a.config.now config_count c.in_err-config.ensures.ok_part c.as_mut_array-3.ensures.cases in
    let r : c.from_residual-in_err-config.result ≡ Err BadLength = search rules in
    rw (r, settings.0, gprs.0) (load_unsized a.bytes.now handed (unsized handed (λ f. short f.config)))

pub returns-in_err-dest : goal.returns-in_err-dest
returns-in_err-dest c control =
    let a = c.args in
    let handed : Machine = machine control a.settings.now a.gprs.now a.config.now a.dest.now a.marks.now a.src_a.now a.src_b.now in
    let settings = taken_mut a.settings.now setting_count c.in_ok-settings.ensures.ok_part c.as_mut_array.ensures.cases in
    let gprs = taken_mut a.gprs.now gpr_count c.in_ok-gprs.ensures.ok_part c.as_mut_array-2.ensures.cases in
    let config = taken_mut a.config.now config_count c.in_ok-config.ensures.ok_part c.as_mut_array-3.ensures.cases in
    let short : length a.dest.now ≢ dest_count = not_taken a.dest.now dest_count c.in_err-dest.ensures.ok_part c.as_mut_array-4.ensures.cases in
    let r : c.from_residual-in_err-dest.result ≡ Err BadLength = search rules in
    rw (r, settings.0, gprs.0, config.0) (load_unsized a.bytes.now handed (unsized handed (λ f. short f.cells)))

pub returns-in_err-marks : goal.returns-in_err-marks
returns-in_err-marks c control =
    let a = c.args in
    let handed : Machine = machine control a.settings.now a.gprs.now a.config.now a.dest.now a.marks.now a.src_a.now a.src_b.now in
    let settings = taken_mut a.settings.now setting_count c.in_ok-settings.ensures.ok_part c.as_mut_array.ensures.cases in
    let gprs = taken_mut a.gprs.now gpr_count c.in_ok-gprs.ensures.ok_part c.as_mut_array-2.ensures.cases in
    let config = taken_mut a.config.now config_count c.in_ok-config.ensures.ok_part c.as_mut_array-3.ensures.cases in
    let dest = taken_mut a.dest.now dest_count c.in_ok-dest.ensures.ok_part c.as_mut_array-4.ensures.cases in
    let short : length a.marks.now ≢ mark_count = not_taken a.marks.now mark_count c.in_err-marks.ensures.ok_part c.as_mut_array-5.ensures.cases in
    let r : c.from_residual-in_err-marks.result ≡ Err BadLength = search rules in
    rw (r, settings.0, gprs.0, config.0, dest.0) (load_unsized a.bytes.now handed (unsized handed (λ f. short f.marks)))

pub returns-in_err-src_a : goal.returns-in_err-src_a
returns-in_err-src_a c control =
    let a = c.args in
    let handed : Machine = machine control a.settings.now a.gprs.now a.config.now a.dest.now a.marks.now a.src_a.now a.src_b.now in
    let settings = taken_mut a.settings.now setting_count c.in_ok-settings.ensures.ok_part c.as_mut_array.ensures.cases in
    let gprs = taken_mut a.gprs.now gpr_count c.in_ok-gprs.ensures.ok_part c.as_mut_array-2.ensures.cases in
    let config = taken_mut a.config.now config_count c.in_ok-config.ensures.ok_part c.as_mut_array-3.ensures.cases in
    let dest = taken_mut a.dest.now dest_count c.in_ok-dest.ensures.ok_part c.as_mut_array-4.ensures.cases in
    let marks = taken_mut a.marks.now mark_count c.in_ok-marks.ensures.ok_part c.as_mut_array-5.ensures.cases in
    let short : length a.src_a.now ≢ source_count = not_taken a.src_a.now source_count c.in_err-src_a.ensures.ok_part c.as_mut_array-6.ensures.cases in
    let r : c.from_residual-in_err-src_a.result ≡ Err BadLength = search rules in
    rw (r, settings.0, gprs.0, config.0, dest.0, marks.0) (load_unsized a.bytes.now handed (unsized handed (λ f. short f.src_a)))

pub returns-in_err-src_b : goal.returns-in_err-src_b
returns-in_err-src_b c control =
    let a = c.args in
    let handed : Machine = machine control a.settings.now a.gprs.now a.config.now a.dest.now a.marks.now a.src_a.now a.src_b.now in
    let settings = taken_mut a.settings.now setting_count c.in_ok-settings.ensures.ok_part c.as_mut_array.ensures.cases in
    let gprs = taken_mut a.gprs.now gpr_count c.in_ok-gprs.ensures.ok_part c.as_mut_array-2.ensures.cases in
    let config = taken_mut a.config.now config_count c.in_ok-config.ensures.ok_part c.as_mut_array-3.ensures.cases in
    let dest = taken_mut a.dest.now dest_count c.in_ok-dest.ensures.ok_part c.as_mut_array-4.ensures.cases in
    let marks = taken_mut a.marks.now mark_count c.in_ok-marks.ensures.ok_part c.as_mut_array-5.ensures.cases in
    let src-a = taken_mut a.src_a.now source_count c.in_ok-src_a.ensures.ok_part c.as_mut_array-6.ensures.cases in
    let short : length a.src_b.now ≢ source_count = not_taken a.src_b.now source_count c.in_err-src_b.ensures.ok_part c.as_mut_array-7.ensures.cases in
    let r : c.from_residual-in_err-src_b.result ≡ Err BadLength = search rules in
    rw (r, settings.0, gprs.0, config.0, dest.0, marks.0, src-a.0) (load_unsized a.bytes.now handed (unsized handed (λ f. short f.src_b)))

pub returns-in-Err : goal.returns-in-Err
returns-in-Err c control =
    let a = c.args in
    let handed : Machine = machine control a.settings.now a.gprs.now a.config.now a.dest.now a.marks.now a.src_a.now a.src_b.now in
    let settings = taken_mut a.settings.now setting_count c.in_ok-settings.ensures.ok_part c.as_mut_array.ensures.cases in
    let gprs = taken_mut a.gprs.now gpr_count c.in_ok-gprs.ensures.ok_part c.as_mut_array-2.ensures.cases in
    let config = taken_mut a.config.now config_count c.in_ok-config.ensures.ok_part c.as_mut_array-3.ensures.cases in
    let dest = taken_mut a.dest.now dest_count c.in_ok-dest.ensures.ok_part c.as_mut_array-4.ensures.cases in
    let marks = taken_mut a.marks.now mark_count c.in_ok-marks.ensures.ok_part c.as_mut_array-5.ensures.cases in
    let src-a = taken_mut a.src_a.now source_count c.in_ok-src_a.ensures.ok_part c.as_mut_array-6.ensures.cases in
    let src-b = taken_mut a.src_b.now source_count c.in_ok-src_b.ensures.ok_part c.as_mut_array-7.ensures.cases in
    let all : SizedFacts handed.settings handed.kept = record { settings = settings.1; gprs = gprs.1; config = config.1; cells = dest.1; marks = marks.1; src_a = src-a.1; src_b = src-b.1 } in
    let bad = scan_bad a.bytes.now c.scan.ensures c.in-Err.is in
    rw (settings.0, gprs.0, config.0, dest.0, marks.0, src-a.0, src-b.0) (load_bad a.bytes.now handed (facts_sized handed all) bad.0 bad.1)

pub read_machine-requires : goal.read_machine-requires
read_machine-requires c =
    let long = (accepts_whole image c.args.bytes.now (scan_taken c.args.bytes.now c.scan.ensures c.in-Ok.is)).0 in
    omega (arith, long)

pub returns-in-Ok : goal.returns-in-Ok
returns-in-Ok c control =
    let a = c.args in
    let handed : Machine = machine control a.settings.now a.gprs.now a.config.now a.dest.now a.marks.now a.src_a.now a.src_b.now in
    let settings = taken_mut a.settings.now setting_count c.in_ok-settings.ensures.ok_part c.as_mut_array.ensures.cases in
    let gprs = taken_mut a.gprs.now gpr_count c.in_ok-gprs.ensures.ok_part c.as_mut_array-2.ensures.cases in
    let config = taken_mut a.config.now config_count c.in_ok-config.ensures.ok_part c.as_mut_array-3.ensures.cases in
    let dest = taken_mut a.dest.now dest_count c.in_ok-dest.ensures.ok_part c.as_mut_array-4.ensures.cases in
    let marks = taken_mut a.marks.now mark_count c.in_ok-marks.ensures.ok_part c.as_mut_array-5.ensures.cases in
    let src-a = taken_mut a.src_a.now source_count c.in_ok-src_a.ensures.ok_part c.as_mut_array-6.ensures.cases in
    let src-b = taken_mut a.src_b.now source_count c.in_ok-src_b.ensures.ok_part c.as_mut_array-7.ensures.cases in
    let all : SizedFacts handed.settings handed.kept = record { settings = settings.1; gprs = gprs.1; config = config.1; cells = dest.1; marks = marks.1; src_a = src-a.1; src_b = src-b.1 } in
    load_taken a.bytes.now handed (facts_sized handed all) (scan_taken a.bytes.now c.scan.ensures c.in-Ok.is) c.read_machine.result c.read_machine.ensures
