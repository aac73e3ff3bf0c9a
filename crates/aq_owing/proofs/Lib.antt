mod BoundLaws
mod PartLaws
mod WeightLaws
mod CountRules
mod OweLaws
mod MadeLaws
mod ExampleLaws
