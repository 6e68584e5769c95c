use Rattle.machine.specs.Fresh.{machine_of}
use Rattle.program_resume.proofs.Telling.{image_written}
use Rattle.program_resume.proofs.lines.put_image.Goals as goal

pub returns : goal.returns
returns c =
    let w = c.save_whole in
    image_written (machine_of c.args.m.now) c.args.out.now c.args.at w.result w.new.out c.requires.0 c.requires.1 w.ensures
