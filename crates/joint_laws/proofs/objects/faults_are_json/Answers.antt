use Rattle.joint_laws.proofs.object_lemmas.Lines.{capture_faults_are_json, faults_are_json, list_faults_are_json}
use Rattle.joint_laws.proofs.objects.faults_are_json.Goals as goal

pub returns : goal.returns
returns c = record { frames = faults_are_json; lists = list_faults_are_json; captures = capture_faults_are_json }
